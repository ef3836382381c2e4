-- Effects and lifts with their names looked up.
use Rattle.std.proofs.Common.{◌≡◌, [], refl}
use Rattle.fst_trees.specs.declared.word.Word.{Word}
use Rattle.fst_trees.specs.declared.decl.EffectTree.{EffectTree}
use Rattle.fst_trees.specs.declared.decl.LiftTree.{LiftTree}
use Rattle.fst_names.specs.Names.{Globals, Before, definition_tables, named_effect, binding, runs_of, input_of}
use Rattle.fst_names.specs.Namings.{sort_named, dm_named, effect_named, lift_named}

pub name-lift : (G : Globals) (b : Before) (l : LiftTree Word) → lift_named G b l ≡ record {
  place = l.at.at;
  from = (named_effect G b l.from).reference;
  «to» = (named_effect G b l.«to»).reference;
  names = l.names;
  text = dm_named (definition_tables G b (runs_of l.names)) (input_of l.names) l.text;
}
unfolding lift_named dm_named
name-lift G b l = refl

pub ruleset lifts = (name-lift)

pub name-effect : (G : Globals) (b : Before) (e : EffectTree Word) → effect_named G b e ≡ record {
  name = e.name;
  div = e.div;
  input = sort_named (definition_tables G b []) e.input;
  result = sort_named (definition_tables G b []) e.result;
  ret_names = e.ret_names;
  ret = dm_named (definition_tables G b []) (binding e.ret_names []) e.ret;
  bind_names = e.bind_names;
  bind = dm_named (definition_tables G b (runs_of e.bind_names)) (input_of e.bind_names) e.bind;
}
unfolding effect_named sort_named dm_named
name-effect G b e = refl

pub ruleset effects = (name-effect)
