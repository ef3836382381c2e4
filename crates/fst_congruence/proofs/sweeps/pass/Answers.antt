use Rattle.std.proofs.Common.{◌||◌, ◌∙◌, sym, subst}
use Rattle.fst_congruence.specs.Classes.{PartsClosed}
use Rattle.fst_congruence.specs.Steps.{SidesLabelled}
use Rattle.fst_congruence.proofs.StepLemmas.{step-step, step-more, fits-step, either-false}
use Rattle.fst_congruence.proofs.sweeps.pass.Goals as goal

pub sweep_parts-requires : goal.sweep_parts-requires
sweep_parts-requires c = fits-step c.args.nodes.now c.args.equations.now c.args.classes.now c.join_given.new.classes c.in_ok-given.given (c.in_ok-given.ensures c.args.nodes.now).0 c.requires.fits

pub sweep_args-requires : goal.sweep_args-requires
sweep_args-requires c = fits-step c.args.nodes.now _ c.join_given.new.classes c.sweep_parts.new.classes c.in_ok-parts.parts c.in_ok-parts.ensures.0
    (fits-step c.args.nodes.now c.args.equations.now c.args.classes.now c.join_given.new.classes c.in_ok-given.given (c.in_ok-given.ensures c.args.nodes.now).0 c.requires.fits)

pub returns : goal.returns
returns c = (
  step-step c.args.nodes.now c.args.equations.now c.args.classes.now c.sweep_parts.new.classes c.sweep_args.new.classes (c.in_ok-given.given || c.in_ok-parts.parts) c.in_ok-whole.whole
      (step-step c.args.nodes.now c.args.equations.now c.args.classes.now c.join_given.new.classes c.sweep_parts.new.classes c.in_ok-given.given c.in_ok-parts.parts (c.in_ok-given.ensures c.args.nodes.now).0
      (step-more c.args.nodes.now c.args.equations.now c.join_given.new.classes c.sweep_parts.new.classes c.in_ok-parts.parts c.in_ok-parts.ensures.0))
      (step-more c.args.nodes.now c.args.equations.now c.sweep_parts.new.classes c.sweep_args.new.classes c.in_ok-whole.whole c.in_ok-whole.ensures.0),
  λ e.
      (let both = either-false (c.in_ok-given.given || c.in_ok-parts.parts) c.in_ok-whole.whole e in
      let first = either-false c.in_ok-given.given c.in_ok-parts.parts both.0 in
      let last = c.in_ok-whole.ensures.0.still both.1 in
      record {
        given = λ f h. subst (λ ls. SidesLabelled ls f) (sym (last ∙ c.in_ok-parts.ensures.0.still first.1)) ((c.in_ok-given.ensures c.args.nodes.now).1 first.0 f h);
        args = c.in_ok-whole.ensures.1 both.1;
        parts = λ i j p q. subst (λ ls. PartsClosed c.args.nodes.now ls i j) (sym last) (c.in_ok-parts.ensures.1 first.1 i j p q);
      }),
)
