-- Lists of values whose numbers lie within 128 bits.
use Rattle.std.proofs.Common.{◌≡◌, List, [], ◌∷◌, ◌++◌, map, Option, Some, None, ap, ap₂, subst, ◌∙◌}
use Rattle.std.proofs.lemmas.List.{map-append}
use Rattle.fst_base.specs.Values.{Val, chain, plain_value}
use Rattle.fst_base.specs.Primitives.{InRange}
use Rattle.fst_base.specs.declared.value.Value.{Value}
use Rattle.fst_values.specs.Reading.{Part, Parts}

within-push : (ws : List Val) (w : Val) → InRange (chain ws) → InRange w → InRange (chain (ws ++ w ∷ []))
within-push [] w h k = (k, tt)
within-push (v ∷ ws) w h k = (h.0, within-push ws w h.1 k)

within-front : (ws : List Val) (w : Val) → InRange (chain (ws ++ w ∷ [])) → InRange (chain ws)
within-front [] w h = tt
within-front (v ∷ ws) w h = (h.0, within-front ws w h.1)

within-last : (ws : List Val) (w : Val) → InRange (chain (ws ++ w ∷ [])) → InRange w
within-last [] w h = h.0
within-last (v ∷ ws) w h = within-last ws w h.1

-- one more item

pub pushed : (vs new : List Value) (v : Value) (ws : List Val) (w : Val) → new ≡ vs ++ v ∷ []
    → Parts ws (Some vs) → Part w (Some v) → Parts (ws ++ w ∷ []) (Some new)
pushed vs new v ws w e h k = (ap (map plain_value) e ∙ map-append plain_value vs (v ∷ []) ∙ ap₂ (λ a b. a ++ b ∷ []) h.0 k.0, within-push ws w h.1 k.1)

pub pushed_wide : (items : Option (List Value)) (part : Option Value) (ws : List Val) (w : Val) → part ≡ None
    → Parts ws items → Part w part → Parts (ws ++ w ∷ []) None
pushed_wide items part ws w e h k = λ r. subst (Part w) e k (within-last ws w r)

pub pushed_to_wide : (items : Option (List Value)) (part : Option Value) (ws : List Val) (w : Val) → items ≡ None
    → Parts ws items → Part w part → Parts (ws ++ w ∷ []) None
pushed_to_wide items part ws w e h k = λ r. subst (Parts ws) e h (within-front ws w r)
