-- The jobs of `head` and `order`: lines that show the main header that the input begins with.
use Rattle.std.specs.Prelude.{ℕ, List, [], Result, Ok, Err}
use Rattle.codestream_model.specs.Values.{Head}
use Rattle.codestream_model.specs.MainHeaderReading.{Refused, head_of}
use Rattle.scl_run.specs.HeaderInput.{header_input}
use Rattle.scl_run.specs.Job.{Job, plain, Never}
use Rattle.scl_cli.specs.HeadLines.{head_lines}
use Rattle.scl_cli.specs.OrderLines.{order_lines}

-- These lines where a main header is read, and none where it is refused.
abbrev pub shown : (Head → List ℕ) → Result Head Refused → List ℕ
shown lines (Ok h) = lines h
shown lines (Err refused) = []

-- A job that reads the main header that its input begins with, and then writes these lines of it; it takes no memory.
abbrev pub shown_job : (Head → List ℕ) → Job
shown_job lines = plain header_input (λ read ended. shown lines (head_of read)) Never

-- `head` writes the lines of the header's values.
abbrev pub head_job : Job
head_job = shown_job head_lines

-- `order` writes the lines of the image's precincts.
abbrev pub order_job : Job
order_job = shown_job order_lines
