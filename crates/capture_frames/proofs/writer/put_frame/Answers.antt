use Rattle.std.proofs.Common.{◌≡◌, ◌++◌, [], ◌∷◌, ℕ, List, length, refl, ap, sym, ◌∙◌, append_assoc}
use Rattle.std.proofs.lemmas.List.{append-nil}
use Rattle.wire_model.specs.Bytes.{two_bytes}
use Rattle.scl_outside.specs.Meaning.{Meaning}
use Rattle.scl_outside.specs.Events.{Wrote, WriteFailed}
use Rattle.scl_outside.specs.Steps.{Step}
use Rattle.scl_outside.specs.Effects.{HasPassed, nothing, only_written, written_until_failed}
use Rattle.scl_outside.specs.declared.duct.PutOut.TheVariants.{Done, WriteFault}
use Rattle.capture_frames.specs.Writing.{WritesFrame}
use Rattle.capture_frames.proofs.writer.put_frame.Goals as goal

none_failed : HasPassed nothing
none_failed = record { reads = refl; writes = refl; on_wire = refl }

first_failed : (s t : Meaning) (bytes front rest head : List ℕ) → head ≡ two_bytes (length bytes) → head ≡ front ++ rest → Step s (WriteFailed front) t → WritesFrame s t WriteFault bytes (WriteFailed front ∷ [])
first_failed s t bytes front rest head is split step = record {
  trace = (t, step, refl);
  within = (tt, none_failed, tt);
  gives = (front, rest ++ bytes, ap (λ (l : List ℕ). l ++ bytes) (sym is ∙ split) ∙ append_assoc front rest bytes, ap (λ (l : List ℕ). written_until_failed l) (append-nil front));
}

both_done : (s t u : Meaning) (bytes head : List ℕ) → head ≡ two_bytes (length bytes) → Step s (Wrote head) t → Step t (Wrote bytes) u → WritesFrame s u Done bytes (Wrote head ∷ Wrote bytes ∷ [])
both_done s t u bytes head is one two = record { trace = (t, one, (u, two, refl)); within = (tt, none_failed, (tt, record { reads = refl; writes = refl; on_wire = refl }, tt)); gives = ap (λ (l : List ℕ). only_written (head ++ l)) (append-nil bytes) ∙ ap (λ (l : List ℕ). only_written (l ++ bytes)) is }

second_failed : (s t u : Meaning) (bytes front rest head : List ℕ) → head ≡ two_bytes (length bytes) → bytes ≡ front ++ rest → Step s (Wrote head) t → Step t (WriteFailed front) u → WritesFrame s u WriteFault bytes (Wrote head ∷ WriteFailed front ∷ [])
second_failed s t u bytes front rest head is split one two = record {
  trace = (t, one, (u, two, refl));
  within = (tt, none_failed, (tt, record { reads = refl; writes = refl; on_wire = refl }, tt));
  gives = (head ++ front, rest, ap (λ (l : List ℕ). l ++ bytes) (sym is) ∙ (ap (λ (l : List ℕ). head ++ l) split ∙ sym (append_assoc head front rest)), ap (λ (l : List ℕ). written_until_failed (head ++ l)) (append-nil front));
}

pub returns-in-Failed : goal.returns-in-Failed
returns-in-Failed g c =
    let step = c.in-Failed.ensures.step in
    (WriteFailed step.0 ∷ [], first_failed _ _ _ _ _ _ c.head_bytes-head.ensures step.2 step.3)

pub returns-in-Done-write : goal.returns-in-Done-write
returns-in-Done-write g c = (Wrote c.head_bytes-head.result ∷ Wrote c.args.bytes.now ∷ [], both_done _ _ _ _ _ c.head_bytes-head.ensures c.in-Done.ensures.step c.in-Done-write.ensures.step)

pub returns-in-Failed-write : goal.returns-in-Failed-write
returns-in-Failed-write g c =
    let step = c.in-Failed-write.ensures.step in
    (Wrote c.head_bytes-head.result ∷ WriteFailed step.0 ∷ [], second_failed _ _ _ _ _ _ _ c.head_bytes-head.ensures step.2 c.in-Done.ensures.step step.3)
