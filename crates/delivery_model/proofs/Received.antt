-- What `recv` writes only grows, and of a stream is what is due.
use Rattle.std.proofs.Common.{◌≡◌, ◌++◌, ℕ, true, false, List, [], ◌∷◌, refl, sym, ◌∙◌, ap, append_assoc}
use Rattle.std.specs.List.{flat_map}
use Rattle.std.proofs.lemmas.List.{append-nil}
use Rattle.wire_model.specs.Receptions.{Reception, Arrived, NotReady, Closed, Failed}
use Rattle.relay_model.specs.Lines.{came}
use Rattle.stream_model.specs.Report.{Precinct, Counts, lines, end_line}
use Rattle.stream_model.specs.Commands.{release_lines}
use Rattle.stream_model.proofs.ReportWritten.{released_lines}
use Rattle.stream_model.specs.Receiver.{Pick, received, flushed, counts_of}
use Rattle.stream_model.specs.Stream.{carried}
use Rattle.stream_model.specs.Reached.{due_at_end}
use Rattle.stream_model.specs.StreamLaws.{said_by}
use Rattle.stream_model.proofs.FrameReceivers.{given_stays, given_grows}
use Rattle.stream_model.proofs.DueLaws.{gives_what_is_due}
use Rattle.delivery_model.specs.Receiving.{recv_line, recv_output}
use Rattle.delivery_model.specs.ReceivingLaws.{RecvOnlyGrows, RecvWritesWhatIsDue}

-- what came by answers and then by others
came-append : (xs ys : List Reception) → came (xs ++ ys) ≡ came xs ++ came ys
came-append [] ys = refl
came-append (Arrived d ∷ xs) ys = ap (λ (l : List (List ℕ)). d ∷ l) (came-append xs ys)
came-append (NotReady ∷ xs) ys = came-append xs ys
came-append (Closed ∷ xs) ys = came-append xs ys
came-append (Failed ∷ xs) ys = came-append xs ys

-- before the end
written : (pick : Pick) (max : ℕ) (receptions : List Reception) → recv_output pick max receptions false ≡ release_lines (received pick (came receptions)).releases
written pick max receptions = append-nil (release_lines (received pick (came receptions)).releases)

-- more comes
more_written : (pick : Pick) (max : ℕ) (receptions more : List Reception) → (added : List ℕ) × (recv_output pick max (receptions ++ more) false ≡ recv_output pick max receptions false ++ added)
more_written pick max receptions more =
    let g = given_grows pick (came receptions) (came more) in (
      release_lines g.0,
      written pick max (receptions ++ more)
          ∙ (ap (λ (fs : List (List ℕ)). release_lines (received pick fs).releases) (came-append receptions more)
          ∙ (ap release_lines g.1 ∙ (released_lines (received pick (came receptions)).releases g.0 ∙ ap (λ (l : List ℕ). l ++ release_lines g.0) (sym (written pick max receptions))))),
    )

-- the end
end_written : (pick : Pick) (max : ℕ) (receptions : List Reception) → (added : List ℕ) × (recv_output pick max receptions true ≡ recv_output pick max receptions false ++ added)
end_written pick max receptions =
    let r = received pick (came receptions) in
    let end = end_line (counts_of (flushed r)) in
    let last = recv_line max receptions in
    let g = given_stays pick (came receptions) in (
      release_lines g.0 ++ (end ++ last),
      append_assoc (release_lines (flushed r).releases) end last
          ∙ (ap (λ xs. release_lines xs ++ (end ++ last)) g.1
          ∙ (ap (λ (l : List ℕ). l ++ (end ++ last)) (released_lines r.releases g.0)
          ∙ (append_assoc (release_lines r.releases) (release_lines g.0) (end ++ last) ∙ ap (λ (l : List ℕ). l ++ (release_lines g.0 ++ (end ++ last))) (sym (written pick max receptions))))),
    )

pub recv_only_grows : RecvOnlyGrows
recv_only_grows = record { later = more_written; ended = end_written }

pub recv_writes_what_is_due : RecvWritesWhatIsDue
recv_writes_what_is_due sent codestreams datagrams events pick max receptions c some a =
    let frames = came receptions in
    let r = received pick frames in
    let last = recv_line max receptions in
    let g = gives_what_is_due sent codestreams datagrams frames events pick c some a in (
      written pick max receptions ∙ ap lines g.0,
      ap (λ (xs : List Precinct). (lines xs ++ end_line (counts_of (flushed r))) ++ last) g.1
          ∙ ap (λ (n : Counts). (lines (flat_map (said_by sent) (due_at_end events pick.window (carried sent))) ++ end_line n) ++ last) g.2,
    )
