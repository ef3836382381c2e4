-- The two kinds of text that hold texts of their kind: the bodies of functions, and the texts of returns, binds and lifts.
use Rattle.fst_trees.specs.declared.word.Word.{Word}
use Rattle.fst_trees.specs.declared.body.BodyTree.{BodyTree}
use Rattle.fst_trees.specs.declared.body.PartTree.{PartTree}
use Rattle.fst_trees.specs.declared.definition.DmTree.{DmTree}
use Rattle.fst_syntax.specs.Productions as n
use Rattle.fst_syntax.specs.Reading.{reads}
use Rattle.fst_syntax.proofs.Opens.{opens}
use Rattle.fst_syntax.proofs.Runs.{arms_opens, dm_arms_opens}
use Rattle.fst_reader.specs.Texts.{Kind}

abbrev pub bodies : Kind (BodyTree Word) (PartTree Word)
bodies = record {
  text = reads n.body;
  part = reads n.part;
  names = reads n.binding;
  arm = reads n.arm;
  arms = reads n.arms;
  arms_more = reads n.arms_more;
  names_open = opens n.binding;
  arm_opens = opens n.arm;
  arms_open = arms_opens;
  arms_list = opens n.arms_more;
}

abbrev pub definitions : Kind (DmTree Word) (DmTree Word)
definitions = record {
  text = reads n.dm;
  part = reads n.dmpart;
  names = reads n.dm_binding;
  arm = reads n.dm_arm;
  arms = reads n.dm_arms;
  arms_more = reads n.dm_arms_more;
  names_open = opens n.dm_binding;
  arm_opens = opens n.dm_arm;
  arms_open = dm_arms_opens;
  arms_list = opens n.dm_arms_more;
}
