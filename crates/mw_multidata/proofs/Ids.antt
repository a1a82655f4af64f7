-- Ids of a list that grows at its end.
use Rattle.std.proofs.Common.{◌≡◌, ℤ, List, [], ◌∷◌, ◌++◌, ◌||◌, ap, ◌∙◌}
use Rattle.std.specs.Ordering.{int_eq}
use Rattle.mw_model.specs.Seed.{NamedId}
use Rattle.mw_multidata.specs.Names.{has_id}
use Rattle.mw_multidata.proofs.Bools.{or_false, or_assoc}

pub has_id_push : (before : List NamedId) (n : NamedId) (q : ℤ) → has_id (before ++ n ∷ []) q ≡ (has_id before q || int_eq n.id q)
has_id_push [] n q = or_false (int_eq n.id q)
has_id_push (m ∷ before) n q = ap (λ b. int_eq m.id q || b) (has_id_push before n q) ∙ or_assoc (int_eq m.id q) (has_id before q) (int_eq n.id q)
