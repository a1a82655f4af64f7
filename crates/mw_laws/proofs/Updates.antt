-- What grows where nothing is recorded.
use Rattle.std.proofs.Common.{◌≡◌, ◌==◌, List, ◌∷◌, [], ◌++◌, Option, Some, None, false, length, refl, ap, ap₂, ◌∙◌, eq-eqb}
use Rattle.std.proofs.Math.Seq.{drop-length}
use Rattle.std.proofs.lemmas.Bool.{cond-true}
use Rattle.mw_model.specs.Seed.{Seed}
use Rattle.mw_protocol.specs.Checks.{Check}
use Rattle.mw_protocol.specs.Connecting.{Member}
use Rattle.mw_protocol.specs.Messages.{room_update}
use Rattle.mw_protocol.specs.Owed.{update_owed, update_with, items_from, growth_owed, view_of}
use Rattle.mw_protocol.specs.Records.{Hint}
use Rattle.mw_protocol.specs.Standing.{Standing, checked_of, points}

-- where nothing is recorded, no location is new and the points are the same
pub no_update : (seed : Seed) (now : Standing) (m : Member) → update_owed seed now now m ≡ []
no_update seed now m =
    let p = points seed now m.team m.slot in
    ap (update_with p p) (drop-length (checked_of now m.team m.slot)) ∙ cond-true (p == p) [] (room_update [] p ∷ []) (eq-eqb p p refl)

-- nothing is owed where neither checks nor hints are others
pub no_growth : (seed : Seed) (before after : Standing) (member : Option Member) → after.checked ≡ before.checked → after.hints ≡ before.hints → growth_owed false seed before after member ≡ []
no_growth seed before after None checked hints = refl
no_growth seed before after (Some m) checked hints =
    let view = view_of seed before m in
    ap₂ (λ (cs : List Check) (hs : List Hint). growth_owed false seed before record { checked = cs; statuses = after.statuses; hints = hs; storage = after.storage } (Some m)) checked hints
    ∙ ap₂ (λ us is. us ++ items_from (length view) is) (no_update seed before m) (drop-length view)
