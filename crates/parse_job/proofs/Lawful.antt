-- An input of codestreams has one verdict, and is read until it is certain.
use Rattle.std.proofs.Common.{◌≡◌, ℕ, List, [], ◌++◌, length, sym, subst, ◌∙◌, ap, inl, inr}
use Rattle.std.proofs.lemmas.List.{append-nil}
use Rattle.codestream_model.specs.Codestream.{WalkRefusal, HeadRefused, Cut, TooManyBlocks, HeaderRefused, PacketTooLong, Psot, NoEoc, InputTooLong, TooManyFrames, Faults}
use Rattle.codestream_model.proofs.Inputs.{input_is_not_refused, fault_is_one}
use Rattle.scl_run.specs.declared.ending.Reason.TheVariants as reason
use Rattle.scl_run.specs.declared.ending.Refusal.{Refusal}
use Rattle.scl_run.specs.InputClass.{IsLawful}
use Rattle.scl_run.proofs.InputClassLaws.{same_refusal}
use Rattle.parse_job.specs.Inputs.{reason_for, AreWholeCodestreams, RefusesCodestreams, LeavesOpen, codestreams_input}
use Rattle.codestream_model.proofs.FaultsStay.{faults_stay}

-- a fault is the input's end or stays
stays : (read rest : List ℕ) (r : Refusal) (why : WalkRefusal) → r.reason ≡ reason_for why → (r.reason ≡ reason.Cut → rest ≡ []) → Faults read r.at why → Faults (read ++ rest) r.at why
stays read rest r Cut is end f = let P : List ℕ → Type 0 = λ l. Faults l r.at Cut in subst P (sym (ap (λ (l : List ℕ). read ++ l) (end is) ∙ append-nil read)) f
stays read rest r (HeadRefused why) is end f = faults_stay read rest r.at (HeadRefused why) (λ e. absurd (cc)) f
stays read rest r TooManyBlocks is end f = faults_stay read rest r.at TooManyBlocks (λ e. absurd (cc)) f
stays read rest r (HeaderRefused why) is end f = faults_stay read rest r.at (HeaderRefused why) (λ e. absurd (cc)) f
stays read rest r PacketTooLong is end f = faults_stay read rest r.at PacketTooLong (λ e. absurd (cc)) f
stays read rest r Psot is end f = faults_stay read rest r.at Psot (λ e. absurd (cc)) f
stays read rest r NoEoc is end f = faults_stay read rest r.at NoEoc (λ e. absurd (cc)) f
stays read rest r InputTooLong is end f = faults_stay read rest r.at InputTooLong (λ e. absurd (cc)) f
stays read rest r TooManyFrames is end f = faults_stay read rest r.at TooManyFrames (λ e. absurd (cc)) f

one_refusal : (input : List ℕ) (r q : Refusal) → RefusesCodestreams input r → RefusesCodestreams input q → r ≡ q
one_refusal input r q (why, is, f) (other, also, g) =
    let same = fault_is_one input r.at q.at why other f g in
    same_refusal r q same.0 (is ∙ (ap reason_for same.1 ∙ sym also))

waits_to_refuse : (read : List ℕ) (r : Refusal) → LeavesOpen read → RefusesCodestreams read r → r.reason ≡ reason.Cut
waits_to_refuse read r (inl (cs, whole)) (why, is, f) = absurd (input_is_not_refused read cs r.at why whole f)
waits_to_refuse read r (inr cut) (why, is, f) = let same = fault_is_one read r.at (length read) why Cut f cut in is ∙ ap reason_for same.1

pub codestreams_are_lawful : IsLawful codestreams_input
codestreams_are_lawful = record {
  one = λ input r a h. input_is_not_refused input a.0 r.at h.0 a.1 h.2;
  one_refusal = one_refusal;
  accepted = λ read rest a end. let P : List ℕ → Type 0 = λ l. AreWholeCodestreams l in subst P (sym (ap (λ (l : List ℕ). read ++ l) (end tt) ∙ append-nil read)) a;
  refused = λ read rest r h end. (h.0, h.1, stays read rest r h.0 h.1 end h.2);
  waits_to_accept = λ read wants a. tt;
  waits_to_refuse = waits_to_refuse;
}
