-- A main header without its last bytes is unfinished.
use Rattle.std.proofs.Common.{◌≡◌, ◌≤◌, ◌+◌, ℕ, Bool, true, false, List, [], ◌++◌, length, take, drop, Result, Ok, Err, subst, refl, sym, ◌∙◌, ap, inl, inr, arith, append_assoc}
use Rattle.std.specs.Prelude.{MatchResult}
use Rattle.std.proofs.lemmas.List.{append-nil, length-append, take-append-drop}
use Rattle.codestream_model.specs.Values.{Head}
use Rattle.codestream_model.specs.Bytes.{IsBytes}
use Rattle.codestream_model.specs.HeadRefusals.{HeadRefusal, Cut as HeadCut}
use Rattle.codestream_model.specs.MainHeader.{SpellsHead}
use Rattle.codestream_model.specs.MainHeaderReading.{Refused, head_of}
use Rattle.codestream_model.specs.RefusedHeader.{RefusesHead, place_of}
use Rattle.codestream_model.specs.ItemLaws.{HeadFrontsNeedBytes}
use Rattle.codestream_model.proofs.TreeLemmas.{either}
use Rattle.codestream_model.proofs.HeaderJudged.{headers_are_judged, header_is_one, header_is_not_refused}
use Rattle.codestream_model.proofs.Standing.{refusal_stands}

-- The refusal is that the bytes end too early.
abbrev is_cut : HeadRefusal → Bool
is_cut HeadCut = true
is_cut why = false

-- is known by its test
cut_is : (why : HeadRefusal) → is_cut why ≡ true → why ≡ HeadCut
cut_is HeadCut e = refl
cut_is why e = absurd (cc)

-- Its offset is the number of the bytes.
cut_place : (b : List ℕ) (at : ℕ) → RefusesHead b at HeadCut → at ≡ length b
cut_place b at (inl r) = r.place
cut_place b at (inr (inl r)) = r.place
cut_place b at (inr (inr r)) = r.place

-- by the answer to the front
front_unfinished : (h : Head) (front rest : List ℕ) (r : Result Head Refused) → SpellsHead h (front ++ rest) → 1 ≤ length rest → MatchResult r (λ g. SpellsHead g (take g.length front)) (λ t. RefusesHead front t.at t.why)
    → RefusesHead front (length front) HeadCut
front_unfinished h front rest (Ok g) s some t =
    let own = take g.length front in
    let behind = drop g.length front in
    let split : (front ++ rest) ++ [] ≡ own ++ (behind ++ rest) = append-nil (front ++ rest) ∙ (ap (λ (l : List ℕ). l ++ rest) (sym (take-append-drop g.length front)) ∙ append_assoc own behind rest) in
    let one = header_is_one h g (front ++ rest) own [] (behind ++ rest) s t split in
    absurd (omega (arith, some, ap length one.1, length-append front rest, ap length (take-append-drop g.length front), length-append own behind))
front_unfinished h front rest (Err t) s some r = elim (either (is_cut t.why)) [
  | inl c ↦
      let P : HeadRefusal → Type 0 = λ why. RefusesHead front t.at why in
      let cut = subst P (cut_is t.why c) r in
      let Q : ℕ → Type 0 = λ n. RefusesHead front n HeadCut in
      subst Q (cut_place front t.at cut) cut
  | inr c ↦
      let stands = refusal_stands front rest t.at t.why (λ e. let d : true ≡ false = sym (ap is_cut e) ∙ c in absurd (cc)) r in
      let R : List ℕ → Type 0 = λ l. RefusesHead l t.at t.why in
      absurd (header_is_not_refused h (front ++ rest) [] t.at t.why s (subst R (sym (append-nil (front ++ rest))) stands))
]

-- a main header without its last bytes is unfinished
pub head_fronts_need_bytes : HeadFrontsNeedBytes
head_fronts_need_bytes h front rest fits s some = front_unfinished h front rest (head_of front) s some (headers_are_judged front fits)
