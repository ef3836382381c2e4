use Rattle.std.proofs.Common.{ap, ◌∙◌, inr}
use Rattle.fst_outside.specs.Memory.{ShelfState}
use Rattle.fst_outside.proofs.ShelfLemmas.{answer-listed, answer-held}
use Rattle.fst_outside.proofs.memory_shelf.MemoryShelf.answer.Goals as goal

pub returns-then-contains : goal.returns-then-contains
returns-then-contains c =
    inr (answer-listed c.args.self.now c.args.name.now c.args.limit _ _ _ _ c.number_of-number.ensures.value
    (c.as_slice.ensures ∙ ap (λ (s : ShelfState). s.fetched) c.self.view_is)
    (c.as_slice-2.ensures ∙ ap (λ (s : ShelfState). s.failing) c.self.view_is)
    c.contains.ensures.value c.if-contains.true)

pub returns : goal.returns
returns c =
    let files = c.as_slice-3.ensures ∙ ap (λ (s : ShelfState). s.files) c.self.view_is in
    answer-held c.args.self.now c.args.name.now c.args.limit _ _ _ _ c.number_of-number.ensures.value
    (c.as_slice.ensures ∙ ap (λ (s : ShelfState). s.fetched) c.self.view_is)
    (c.as_slice-2.ensures ∙ ap (λ (s : ShelfState). s.failing) c.self.view_is)
    c.contains.ensures.value _ c.if-contains.false
    (rw (← files, ← c.bytes_of.ensures) c.held_up_to.ensures)
