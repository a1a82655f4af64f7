use Rattle.std.proofs.Common.{◌≡◌, List, All, sym, ap, ap₂, subst, ◌∙◌}
use Rattle.mw_multi.specs.Placement.{Put}
use Rattle.mw_fill.specs.Openings.{all_kinds}
use Rattle.mw_fill.specs.Fill.{filled, stuck, placed_anywhere}
use Rattle.mw_fill.specs.Try.{Lists, and_then, the_rest}
use Rattle.mw_fill.specs.Kept.{CopyKept, OpeningKept, IsHeldFor}
use Rattle.mw_fill.specs.Answer.{OnStuck}
use Rattle.mw_fill.proofs.Trying.{regular_all, all_kinds_all, places_within, on_stuck, matched}
use Rattle.mw_fill.proofs.one_try.place_rest.Goals as goal

pub place_anywhere-requires : goal.place_anywhere-requires
place_anywhere-requires c =
    let joint = c.args.joint.now in
    let sites : All (OpeningKept joint) c.args.places.now = subst (All (OpeningKept joint)) (sym c.requires.places) (regular_all (OpeningKept joint) c.args.lists.now.openings c.requires.lists.openings) in
    record { within = places_within joint c.requires.held.0 c.args.held.now c.args.places.now c.requires.held.1 sites }

pub returns-in-Err : goal.returns-in-Err
returns-in-Err c puts held =
    let joint = c.args.joint.now in
    let lists = c.args.lists.now in
    let helping : c.as_slice.result.now ≡ lists.helping = c.as_slice.ensures ∙ ap (λ (l : Lists). l.helping) c.lists.view_is in
    let kept : All (CopyKept joint) c.as_slice.result.now = subst (All (CopyKept joint)) (sym helping) c.requires.lists.helping in
    let sites : All (OpeningKept joint) c.args.places.now = subst (All (OpeningKept joint)) (sym c.requires.places) (regular_all (OpeningKept joint) lists.openings c.requires.lists.openings) in
    on_stuck c.in-Err.error (λ slot item. placed_anywhere c.args.places.now c.as_slice.result.now puts ≡ stuck slot item) (λ slot item. the_rest lists puts ≡ stuck slot item)
    (λ slot item e. ap (λ o. and_then o (placed_anywhere (all_kinds lists.openings) lists.filling)) (sym (ap₂ (λ ss cs. placed_anywhere ss cs puts) c.requires.places helping) ∙ e))
    (c.in-Err.ensures c.args.joint.now puts kept sites held)

pub place_anywhere-requires-2 : goal.place_anywhere-requires-2
place_anywhere-requires-2 c =
    let joint = c.args.joint.now in
    let lists = c.args.lists.now in
    let helping : c.as_slice.result.now ≡ lists.helping = c.as_slice.ensures ∙ ap (λ (l : Lists). l.helping) c.lists.view_is in
    let kept : All (CopyKept joint) c.as_slice.result.now = subst (All (CopyKept joint)) (sym helping) c.requires.lists.helping in
    let sites : All (OpeningKept joint) c.args.places.now = subst (All (OpeningKept joint)) (sym c.requires.places) (regular_all (OpeningKept joint) lists.openings c.requires.lists.openings) in
    let middle = c.in_default.ensures joint c.requires.held.0 kept sites c.requires.held.1 in
    let everywhere : c.as_slice-4.result.now ≡ all_kinds lists.openings = c.as_slice-4.ensures ∙ c.in_ok-places.ensures ∙ ap all_kinds (c.as_slice-2.ensures ∙ ap (λ (l : Lists). l.openings) c.lists.view_is) in
    let all_sites : All (OpeningKept joint) c.as_slice-4.result.now = subst (All (OpeningKept joint)) (sym everywhere) (all_kinds_all (OpeningKept joint) lists.openings c.requires.lists.openings) in
    record { within = places_within joint middle.0 c.place_anywhere.new.held c.as_slice-4.result.now middle.1 all_sites }

pub returns : goal.returns
returns c puts held =
    let joint = c.args.joint.now in
    let lists = c.args.lists.now in
    let helping : c.as_slice.result.now ≡ lists.helping = c.as_slice.ensures ∙ ap (λ (l : Lists). l.helping) c.lists.view_is in
    let kept : All (CopyKept joint) c.as_slice.result.now = subst (All (CopyKept joint)) (sym helping) c.requires.lists.helping in
    let sites : All (OpeningKept joint) c.args.places.now = subst (All (OpeningKept joint)) (sym c.requires.places) (regular_all (OpeningKept joint) lists.openings c.requires.lists.openings) in
    let middle = c.in_default.ensures joint puts kept sites held in
    let everywhere : c.as_slice-4.result.now ≡ all_kinds lists.openings = c.as_slice-4.ensures ∙ c.in_ok-places.ensures ∙ ap all_kinds (c.as_slice-2.ensures ∙ ap (λ (l : Lists). l.openings) c.lists.view_is) in
    let all_sites : All (OpeningKept joint) c.as_slice-4.result.now = subst (All (OpeningKept joint)) (sym everywhere) (all_kinds_all (OpeningKept joint) lists.openings c.requires.lists.openings) in
    let filling : c.as_slice-3.result.now ≡ lists.filling = c.as_slice-3.ensures ∙ ap (λ (l : Lists). l.filling) c.lists.view_is in
    let last_kept : All (CopyKept joint) c.as_slice-3.result.now = subst (All (CopyKept joint)) (sym filling) c.requires.lists.filling in
    let first : the_rest lists puts ≡ placed_anywhere c.as_slice-4.result.now c.as_slice-3.result.now middle.0 =
    ap (λ o. and_then o (placed_anywhere (all_kinds lists.openings) lists.filling)) (sym (ap₂ (λ ss cs. placed_anywhere ss cs puts) c.requires.places helping) ∙ middle.2)
    ∙ sym (ap₂ (λ ss cs. placed_anywhere ss cs middle.0) everywhere filling) in
    matched c.place_anywhere-2.result _ (λ x. (more : List Put) × IsHeldFor joint more c.place_anywhere-2.new.held × (the_rest lists puts ≡ filled more)) _ (λ e. OnStuck e (λ slot item. the_rest lists puts ≡ stuck slot item))
    (λ x end. (end.0, end.1, first ∙ end.2))
    (λ e end. on_stuck e (λ slot item. placed_anywhere c.as_slice-4.result.now c.as_slice-3.result.now middle.0 ≡ stuck slot item) (λ slot item. the_rest lists puts ≡ stuck slot item) (λ slot item f. first ∙ f) end)
    (c.place_anywhere-2.ensures joint middle.0 last_kept all_sites middle.1)
