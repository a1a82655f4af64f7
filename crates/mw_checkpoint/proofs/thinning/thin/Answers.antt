use Rattle.std.proofs.Common.{◌≡◌, ◌∙◌, ◌-◌, ◌++◌, ◌∷◌, [], true, false, ap, sym, drop, map, arith, reverse}
use Rattle.std.specs.Prelude.{not}
use Rattle.std.proofs.lemmas.List.{map-append, reverse-reverse}
use Rattle.mw_records.specs.Records.{record_view}
use Rattle.mw_thinning.specs.Thinning.{is_outdone, is_stored, thinned}
use Rattle.mw_checkpoint.proofs.MetKeys.{kept_more, map_reverse, one_before, reverse_first}
use Rattle.mw_checkpoint.proofs.thinning.thin.Goals as goal

pub loop-left-preserved-in_ok-push : goal.loop-left-preserved-in_ok-push
loop-left-preserved-in_ok-push c =
    let xs = c.as_slice-records.result.now in
    let left = c.loop-left.left in
    let h = c.loop-left.invariant in
    let r = record_view c.index-records-left.result in
    let later = map record_view (drop left xs) in
    let viewed : map record_view (drop (left - 1) xs) ≡ r ∷ later =
    ap (map record_view) (one_before xs left c.index-records-left.result c.loop-left-test.true h.0 c.index-records-left.is) in
    let counts : true ≡ not (is_outdone r later) = sym c.if-branch.true ∙ c.in_ok-counts.ensures.counts later h.2 in (
      omega (arith, h.0),
      ap (map record_view) c.in_ok-push.ensures.items
          ∙ map-append record_view c.loop-left.kept.items (c.in_ok-copy_record.field-0 ∷ [])
          ∙ ap (λ l. l ++ record_view c.in_ok-copy_record.field-0 ∷ []) h.1
          ∙ ap (λ x. reverse (thinned later) ++ x ∷ []) c.in_ok-copy_record.ensures
          ∙ sym (reverse_first r (thinned later)) ∙ ap reverse (sym (kept_more true r later counts))
          ∙ ap (λ l. reverse (thinned l)) (sym viewed),
      λ key. c.in_ok-counts.ensures.keys later h.2 key ∙ ap (is_stored key) (sym viewed),
    )

pub loop-left-preserved : goal.loop-left-preserved
loop-left-preserved c =
    let xs = c.as_slice-records.result.now in
    let left = c.loop-left.left in
    let h = c.loop-left.invariant in
    let r = record_view c.index-records-left.result in
    let later = map record_view (drop left xs) in
    let viewed : map record_view (drop (left - 1) xs) ≡ r ∷ later =
    ap (map record_view) (one_before xs left c.index-records-left.result c.loop-left-test.true h.0 c.index-records-left.is) in
    let counts : false ≡ not (is_outdone r later) = sym c.if-branch.false ∙ c.in_ok-counts.ensures.counts later h.2 in (
      omega (arith, h.0),
      h.1 ∙ ap reverse (sym (kept_more false r later counts)) ∙ ap (λ l. reverse (thinned l)) (sym viewed),
      λ key. c.in_ok-counts.ensures.keys later h.2 key ∙ ap (is_stored key) (sym viewed),
    )

pub returns : goal.returns
returns c =
    let xs = c.as_slice-records.result.now in
    let h = c.loop-left.invariant in
    let end : c.loop-left.left ≡ 0 = omega (arith, c.loop-left-test.false) in
    ap (map record_view) (c.from_vec.ensures ∙ c.reverse.ensures.items) ∙ map_reverse record_view c.loop-left.kept.items
    ∙ ap reverse h.1 ∙ reverse-reverse (thinned (map record_view (drop c.loop-left.left xs)))
    ∙ ap (λ n. thinned (map record_view (drop n xs))) end ∙ ap (λ l. thinned (map record_view l)) c.as_slice-records.ensures
