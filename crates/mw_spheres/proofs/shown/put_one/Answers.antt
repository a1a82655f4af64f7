use Rattle.std.proofs.Common.{◌≡◌, ◌<◌, ◌++◌, ℕ, [], List, length, All, set, sym, ap, ap₂, ◌∙◌, subst, arith}
use Rattle.std.specs.Prelude.{if◌then◌else◌}
use Rattle.std.proofs.lemmas.List.{nil_from_length}
use Rattle.mw_multi.specs.Placement.{numbers_at}
use Rattle.mw_reach.specs.Reached.{places_in}
use Rattle.mw_spheres.proofs.Revealing.{fewer_numbers, entry_few, found_put, within_put}
use Rattle.mw_spheres.proofs.shown.put_one.Goals as goal

pub swap-requires-clause-room : goal.swap-requires-clause-room
swap-requires-clause-room c =
    let a = c.args in
    let numbers : c.push_items.new.items ≡ numbers_at a.full.now a.place = c.in_ok-push_items.ensures ∙ ap₂ (λ (x : List ℕ) y. x ++ y) c.new-numbers.ensures c.at-entry.ensures in
    omega (arith, ap length numbers, entry_few a.full.now a.place, fewer_numbers a.table.now a.full.now (omega arith) c.requires.fewer, c.requires.few)

pub returns-clause-more : goal.returns-clause-more
returns-clause-more c = λ base before old.
    let a = c.args in
    let w = places_in a.reached.now in
    let numbers : c.push_items.new.items ≡ numbers_at a.full.now a.place = c.in_ok-push_items.ensures ∙ ap₂ (λ (x : List ℕ) y. x ++ y) c.new-numbers.ensures c.at-entry.ensures in
    let none : numbers_at a.table.now a.place ≡ [] = nil_from_length (numbers_at a.table.now a.place) (omega (arith, c.if-at-gt0.false, ap length c.at.ensures)) in
    let table : c.swap.new.self ≡ set a.table.now a.place (numbers_at a.full.now a.place) = c.swap.ensures.table ∙ ap (set a.table.now a.place) numbers in
    let more : c.push_reached.new.more ≡ a.more.now ++ (if w a.place then numbers_at a.full.now a.place else []) = c.in_ok-push_reached.ensures ∙ ap (λ ns. a.more.now ++ (if w a.place then ns else [])) c.at-entry.ensures in
    rw (table, more) (found_put base before a.table.now w a.more.now a.place (numbers_at a.full.now a.place) c.requires.place none old)

pub returns-clause-within : goal.returns-clause-within
returns-clause-within c = λ items all before.
    let a = c.args in
    let w = places_in a.reached.now in
    let more : c.push_reached.new.more ≡ a.more.now ++ (if w a.place then numbers_at a.full.now a.place else []) = c.in_ok-push_reached.ensures ∙ ap (λ ns. a.more.now ++ (if w a.place then ns else [])) c.at-entry.ensures in
    subst (All (λ i. i < items)) (sym more) (within_put items a.full.now a.place a.more.now (w a.place) (omega (arith, c.requires.place)) all before)
