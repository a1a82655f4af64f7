use Rattle.std.proofs.Common.{◌≡◌, ◌∙◌, ◌++◌, ◌∷◌, [], length, sym, ap, ap₂, subst}
use Rattle.mw_reach.specs.Cut.{cut_from, AreEnds}
use Rattle.mw_reach.proofs.Cutting.{cut_more, ends_more}
use Rattle.mw_reach.proofs.table.Table.with.Goals as goal

pub invariant_of-result : goal.invariant_of-result
invariant_of-result c =
    let ends = c.self.inside.ends.items in
    let numbers = c.self.inside.numbers.items in
    let list = c.args.list.now in
    let more = c.in_ok-extend_from_slice.ensures.items in
    let last : c.in-Ok.end ≡ length (numbers ++ list) = c.in-Ok.ensures.1 ∙ c.len.ensures ∙ c.extend_from_slice.new.self.ok.0 ∙ ap length more in
    let later = c.in_ok-push.ensures.items ∙ ap (λ n. ends ++ n ∷ []) last in
    subst (λ ns. AreEnds 0 c.push.new.self.items ns) (sym more) (subst (λ es. AreEnds 0 es (numbers ++ list)) (sym later) (ends_more 0 ends numbers list c.self.invariant))

pub returns : goal.returns
returns c =
    let ends = c.self.inside.ends.items in
    let numbers = c.self.inside.numbers.items in
    let list = c.args.list.now in
    let more = c.in_ok-extend_from_slice.ensures.items in
    let last : c.in-Ok.end ≡ length (numbers ++ list) = c.in-Ok.ensures.1 ∙ c.len.ensures ∙ c.extend_from_slice.new.self.ok.0 ∙ ap length more in
    let later = c.in_ok-push.ensures.items ∙ ap (λ n. ends ++ n ∷ []) last in
    ap₂ (cut_from 0) later more ∙ cut_more 0 ends numbers list c.self.invariant ∙ ap (λ ls. ls ++ list ∷ []) c.self.view_is
