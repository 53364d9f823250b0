use Rattle.std.proofs.Common.{refl, ◌∙◌, arith}
use Rattle.scl_cli.specs.declared.command.Verb.TheVariants as verbs
use Rattle.scl_cli.proofs.Grammar.{with_six}
use Rattle.scl_cli.proofs.GenSpelt.{chroma_x, chroma_y, enough_words}
use Rattle.scl_cli.proofs.generation.gen_of.Goals as goal

pub returns-clause-spelt : goal.returns-clause-spelt
returns-clause-spelt c =
    let seed = c.in_ok-seed.ensures in
    let width = c.in_ok-width.ensures in
    let height = c.in_ok-height.ensures in
    let components = c.in_ok-components.ensures in
    let levels = c.in_ok-levels.ensures in
    let sub = c.in_ok-sub.ensures.spelt in
    let options = c.in_ok-options.ensures.spelt in (
      record {
        seed = omega (arith, seed.most);
        shape = record {
          some_width = omega (arith, width.least);
          most_width = omega (arith, width.most);
          some_height = omega (arith, height.least);
          most_height = omega (arith, height.most);
          some_component = omega (arith, components.least);
          few_components = omega (arith, components.most);
          chroma_x = chroma_x c.in_ok-sub.sub;
          chroma_y = chroma_y c.in_ok-sub.sub;
          few_levels = omega (arith, levels.most);
          order = options.known;
        };
      },
      with_six c.args.words.now verbs.Gen _ _ _ _ _ _ c.requires (omega arith) c.get.ensures c.get-2.ensures c.get-3.ensures c.get-4.ensures c.get-5.ensures c.get-6.ensures
          ∙ rw (seed.spelt, width.spelt, height.spelt, components.spelt, levels.spelt, sub, options.are) refl,
    )

pub returns-then-len-lt7-clause-all : goal.returns-then-len-lt7-clause-all
returns-then-len-lt7-clause-all c = λ command verb spells. absurd (let many = enough_words command c.args.words.now verb spells in omega (arith, many, c.len.ensures, c.if-len-lt7.true))
