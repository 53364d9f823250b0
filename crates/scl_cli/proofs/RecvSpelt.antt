-- The words of `recv`.
use Rattle.std.proofs.Common.{◌≡◌, List, ℕ, [], ◌∷◌, Some, length, refl, sym, ◌∙◌, ap, arith}
use Rattle.std.proofs.lemmas.List.{drop_all}
use Rattle.std.specs.Prelude.{slice_get}
use Rattle.stream_receiver.specs.declared.pick.Pick.{Pick}
use Rattle.stream_receiver.specs.States.{pick_of}
use Rattle.recv_job.specs.Settings.{Settings}
use Rattle.scl_cli.specs.declared.command.Command.{Command}
use Rattle.scl_cli.specs.declared.command.Command.TheVariants.{Thin, Head, Order, Parse, Pack, Report, Rebuild, Recv, Send, Relay, Deliver, Gen, Trial}
use Rattle.scl_cli.specs.declared.command.Verb.{Verb}
use Rattle.scl_cli.specs.declared.command.Verb.TheVariants as verbs
use Rattle.scl_cli.specs.Commands.{Begins, HasPick, IsReceiver, verb_of, verb_word, words_of}
use Rattle.scl_cli.proofs.Grammar.{with_six}

-- seven words
pub are_seven : (words : List (List ℕ)) (v : Verb) (a b c d e f : List ℕ) → Begins v words → length words ≡ 7 → slice_get words 1 ≡ Some a → slice_get words 2 ≡ Some b → slice_get words 3 ≡ Some c
    → slice_get words 4 ≡ Some d → slice_get words 5 ≡ Some e → slice_get words 6 ≡ Some f → words ≡ verb_word v ∷ a ∷ b ∷ c ∷ d ∷ e ∷ f ∷ []
are_seven words v a b c d e f begin n first second third fourth fifth sixth =
    with_six words v a b c d e f begin (omega (arith, n)) first second third fourth fifth sixth
    ∙ ap (λ (l : List (List ℕ)). verb_word v ∷ a ∷ b ∷ c ∷ d ∷ e ∷ f ∷ l) (drop_all 7 words (omega (arith, n)))

-- a command of this verb
pub as_recv : (command : Command) → verb_of command ≡ verbs.Recv → (s : Settings) × (command ≡ Recv s)
as_recv (Recv s) e = (s, refl)
as_recv (Thin l) e = absurd (cc)
as_recv Head e = absurd (cc)
as_recv Order e = absurd (cc)
as_recv (Parse s) e = absurd (cc)
as_recv (Pack p) e = absurd (cc)
as_recv (Report p) e = absurd (cc)
as_recv (Rebuild p) e = absurd (cc)
as_recv (Send s) e = absurd (cc)
as_recv (Relay s) e = absurd (cc)
as_recv (Deliver l) e = absurd (cc)
as_recv (Gen g) e = absurd (cc)
as_recv (Trial asked) e = absurd (cc)

-- the stream that a receiver picks
abbrev pub picked : Settings → Pick
picked s = record { kind = s.pick.kind; source = s.pick.source; window = s.pick.window }

pub has_pick : (words : List (List ℕ)) (s : Settings) → IsReceiver s → words ≡ words_of (Recv s) → HasPick words (picked s)
has_pick words s range is = record {
  range = record { kind = range.kind; source = range.source; some = range.settings.some_window; few = range.settings.most_window };
  kind = ap (λ (l : List (List ℕ)). slice_get l 1) is;
  source = ap (λ (l : List (List ℕ)). slice_get l 2) is;
  window = ap (λ (l : List (List ℕ)). slice_get l 3) is;
}

-- a word at an index is that of the command
pub word_is : (words : List (List ℕ)) (s : Settings) (i : ℕ) (word wanted : List ℕ) → words ≡ words_of (Recv s) → slice_get words i ≡ Some word → slice_get (words_of (Recv s)) i ≡ Some wanted → word ≡ wanted
word_is words s i word wanted is at there = let e : Some word ≡ Some wanted = sym at ∙ (ap (λ (l : List (List ℕ)). slice_get l i) is ∙ there) in cc

-- the settings are those of the command
pub settings_are : (s settings : Settings) (pick : Pick) (max idle : ℕ) (local : List ℕ) → settings ≡ record { pick = pick_of pick; max = max; idle = idle; local = local } → Some pick ≡ Some (picked s) → Some max ≡ Some s.max → Some idle ≡ Some s.idle
    → local ≡ s.local → settings ≡ s
settings_are s settings pick max idle local is p m i l =
    let a : pick ≡ picked s = cc in
    let b : max ≡ s.max = cc in
    let c : idle ≡ s.idle = cc in
    let all : record { pick = pick_of pick; max = max; idle = idle; local = local } ≡ record { pick = pick_of (picked s); max = s.max; idle = s.idle; local = s.local } = rw (a, b, c, l) refl in
    is ∙ all
