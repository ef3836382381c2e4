use Rattle.fst_prims.proofs.FitLemmas.{fits-Add, fits-Sub, fits-Mul, fits-Div, fits-Rem, fits-Neg, fits-Le, fits-Lt, fits-Eq, fits-Pair, fits-Fst, fits-Snd, fits-Nothing, fits-Just, fits-Nil, fits-Cons, fits-Inl, fits-Inr, fits-Len, fits-Hd, fits-Tl, fits-The, fits-Outl, fits-Outr}
use Rattle.fst_prims.proofs.apply.Prims+24.apply.Goals as goal

pub add-requires : goal.add-requires
add-requires c = fits-Add _ _ _ c.requires c.in-Add.is

pub sub-requires : goal.sub-requires
sub-requires c = fits-Sub _ _ _ c.requires c.in-Sub.is

pub mul-requires : goal.mul-requires
mul-requires c = fits-Mul _ _ _ c.requires c.in-Mul.is

pub div-requires : goal.div-requires
div-requires c = fits-Div _ _ _ c.requires c.in-Div.is

pub rem-requires : goal.rem-requires
rem-requires c = fits-Rem _ _ _ c.requires c.in-Rem.is

pub neg-requires : goal.neg-requires
neg-requires c = fits-Neg _ _ _ c.requires c.in-Neg.is

pub le-requires : goal.le-requires
le-requires c = fits-Le _ _ _ c.requires c.in-Le.is

pub lt-requires : goal.lt-requires
lt-requires c = fits-Lt _ _ _ c.requires c.in-Lt.is

pub eq-requires : goal.eq-requires
eq-requires c = fits-Eq _ _ _ c.requires c.in-Eq.is

pub pair-requires : goal.pair-requires
pair-requires c = fits-Pair _ _ _ c.requires c.in-Pair.is

pub fst-requires : goal.fst-requires
fst-requires c = fits-Fst _ _ _ c.requires c.in-Fst.is

pub snd-requires : goal.snd-requires
snd-requires c = fits-Snd _ _ _ c.requires c.in-Snd.is

pub nothing-requires : goal.nothing-requires
nothing-requires c = fits-Nothing _ _ _ c.requires c.in-Nothing.is

pub just-requires : goal.just-requires
just-requires c = fits-Just _ _ _ c.requires c.in-Just.is

pub nil-requires : goal.nil-requires
nil-requires c = fits-Nil _ _ _ c.requires c.in-Nil.is

pub cons-requires : goal.cons-requires
cons-requires c = fits-Cons _ _ _ c.requires c.in-Cons.is

pub inl-requires : goal.inl-requires
inl-requires c = fits-Inl _ _ _ c.requires c.in-Inl.is

pub inr-requires : goal.inr-requires
inr-requires c = fits-Inr _ _ _ c.requires c.in-Inr.is

pub len-requires : goal.len-requires
len-requires c = fits-Len _ _ _ c.requires c.in-Len.is

pub hd-requires : goal.hd-requires
hd-requires c = fits-Hd _ _ _ c.requires c.in-Hd.is

pub tl-requires : goal.tl-requires
tl-requires c = fits-Tl _ _ _ c.requires c.in-Tl.is

pub the-requires : goal.the-requires
the-requires c = fits-The _ _ _ c.requires c.in-The.is

pub outl-requires : goal.outl-requires
outl-requires c = fits-Outl _ _ _ c.requires c.in-Outl.is

pub outr-requires : goal.outr-requires
outr-requires c = fits-Outr _ _ _ c.requires c.in-Outr.is
