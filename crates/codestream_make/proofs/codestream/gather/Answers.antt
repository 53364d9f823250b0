use Rattle.std.proofs.Common.{◌≡◌, ◌++◌, [], ℕ, List, Err, map, sym, subst, ◌∙◌, ap}
use Rattle.std.proofs.lemmas.List.{append-nil}
use Rattle.codestream_model.specs.Values.{Head}
use Rattle.codestream_model.specs.HeadLimits.{IsWithinLimits}
use Rattle.codestream_model.specs.Codestream.{joined}
use Rattle.codestream_make.specs.declared.gathered.Gathered.{Gathered}
use Rattle.codestream_make.specs.Gathering.{HasGathered}
use Rattle.codestream_make.specs.Making.{content_of, made_packets}
use Rattle.codestream_make.proofs.HeaderAndPackets.{gathers, has_other}
use Rattle.codestream_make.proofs.codestream.gather.Goals as goal

pub unreachable-requires : goal.unreachable-requires
unreachable-requires c =
    c.in_default.not-Ok _ (c.read_head.ensures.only c.requires.0 c.args.header.items [] c.requires.1 (c.deref.ensures.value ∙ sym (append-nil c.args.header.items)))

pub returns-in_err-put_packets-clause-content : goal.returns-in_err-put_packets-clause-content
returns-in_err-put_packets-clause-content c = λ is.
    let given = rw is at c.from_residual-in_err-put_packets.ensures.1 in
    let read = c.read_head.ensures.only c.requires.0 c.args.header.items [] c.requires.1 (c.deref.ensures.value ∙ sym (append-nil c.args.header.items)) in
    let start : c.new-4.result.head ≡ c.requires.0 = c.new-4.ensures.head ∙ c.new-3.ensures ∙ (let e = sym c.in-Ok.is ∙ read in cc) in
    has_other c.args.header.items (map content_of c.args.contents.now) c.requires.0 c.new-4.result.head c.requires.1 start (c.in_err-put_packets.ensures.content (ap (λ e. Err e) (sym given)))

pub returns-clause-gathers : goal.returns-clause-gathers
returns-clause-gathers c =
    let read = c.read_head.ensures.only c.requires.0 c.args.header.items [] c.requires.1 (c.deref.ensures.value ∙ sym (append-nil c.args.header.items)) in
    let start : c.new-4.result.head ≡ c.requires.0 = c.new-4.ensures.head ∙ c.new-3.ensures ∙ (let e = sym c.in-Ok.is ∙ read in cc) in
    gathers c.args.header.items (map content_of c.args.contents.now) c.requires.0 c.new-4.result.head c.new.result c.put_packets.new.self.gathered c.add.new.self
    c.requires.1 (let P : Head → Type 0 = λ h. IsWithinLimits h in subst P (let e = sym c.in-Ok.is ∙ read in cc) c.is_within_limits.ensures) start c.new.ensures.gathered c.in_ok-put_packets.ensures.fits
    (let P : Gathered → Type 0 = λ g. (all : List ℕ) → HasGathered g all → HasGathered c.put_packets.new.self.gathered (all ++ joined (made_packets c.new-4.result.head (map content_of c.args.contents.now))) in subst P c.in_ok-maker.ensures c.in_ok-put_packets.ensures.gathered)
    c.in_ok-add.ensures
