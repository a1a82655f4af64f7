-- Hints that are bought.
use Rattle.std.proofs.Common.{◌≡◌, ℕ, ℤ, ◌&&◌, true, false, not, cond, List, [], ◌∷◌, Bool, Option, Some, None, is_some, nat_lt, refl, sym, ap, subst, true≢false}
use Rattle.std.specs.Option.{unwrap_or}
use Rattle.std.proofs.lemmas.Bool.{and_parts}
use Rattle.std.specs.Ordering.{int_eq}
use Rattle.mw_model.specs.Seed.{Seed, Held, is_owner}
use Rattle.mw_protocol.specs.HintList.{hint_at}
use Rattle.mw_protocol.specs.Hints.{Answer, bought, no_such_name, nothing_to_hint, too_dear, Wanted, item_wanted, location_wanted, bought_for, bought_hint, first_if, first_where, held_named, is_open, item_bought, item_named, location_bought, location_named, paid}
use Rattle.mw_protocol.specs.Records.{Hint}
use Rattle.mw_protocol.specs.Standing.{Standing, cost, is_checked}
use Rattle.mw_room.specs.Hinting.{IsBought}

abbrev IsBuy : Answer → Type 0
IsBuy (bought h) = Unit {0}
IsBuy no_such_name = ⊥
IsBuy nothing_to_hint = ⊥
IsBuy (too_dear price left) = ⊥

-- the hint of an answer, where it is one
abbrev hint_in : Hint → Answer → Hint
hint_in d (bought h) = h
hint_in d no_such_name = d
hint_in d nothing_to_hint = d
hint_in d (too_dear price left) = d

no_hint : (o : Option Hint) → not (is_some o) ≡ true → o ≡ None
no_hint None h = refl
no_hint (Some x) h = absurd (true≢false (sym h))

open_none : (now : Standing) (team : ℕ) (x : Held) → is_open (is_checked now) now.hints team x ≡ true → hint_at now.hints team x.slot x.location ≡ None
open_none now team x h = no_hint (hint_at now.hints team x.slot x.location) (and_parts (not (is_checked now team x.slot x.location)) (not (is_some (hint_at now.hints team x.slot x.location))) h).1

paid_is : (now : Standing) (team slot price left : ℕ) (o : Option Held) (h : Hint) → ((x : Held) → o ≡ Some x → hint_at now.hints team x.slot x.location ≡ None)
    → paid team slot price left o ≡ bought h → IsBought now team slot h
paid_is now team slot price left None h none e = absurd (subst IsBuy (sym e) tt)
paid_is now team slot price left (Some x) h none e =
    (elim (nat_lt left price) as (λ b. cond b (too_dear price left) (bought (bought_hint team slot x)) ≡ bought h → IsBought now team slot h) [
      | true ↦ (λ dear. absurd (subst IsBuy (sym dear) tt))
      | false ↦ (λ is.
          subst (IsBought now team slot) (ap (hint_in h) is) (record { team = refl; buyer = refl; paid = refl; none = none x refl }))
    ]) e

first_holds : (p : Held → Bool) (hs : List Held) (x : Held) → first_where p hs ≡ Some x → p x ≡ true
first_holds p [] x e = absurd (true≢false (sym (ap is_some e)))
first_holds p (h ∷ hs) x e =
    (elim (p h) as (λ b. p h ≡ b → cond b (Some h) (first_where p hs) ≡ Some x → p x ≡ true) [
      | true ↦ (λ is same. subst (λ (y : Held). p y ≡ true) (ap (λ (o : Option Held). unwrap_or o h) same) is)
      | false ↦ (λ is later. first_holds p hs x later)
    ]) refl e

only_holds : (p : Held → Bool) (o : Option Held) (x : Held) → first_if p o ≡ Some x → p x ≡ true
only_holds p None x e = absurd (true≢false (sym (ap is_some e)))
only_holds p (Some h) x e =
    (elim (p h) as (λ b. p h ≡ b → cond b (Some h) None ≡ Some x → p x ≡ true) [
      | true ↦ (λ is same. subst (λ (y : Held). p y ≡ true) (ap (λ (o : Option Held). unwrap_or o h) same) is)
      | false ↦ (λ is none. absurd (true≢false (sym (ap is_some none))))
    ]) refl e

item_is : (seed : Seed) (now : Standing) (left team slot : ℕ) (o : Option ℤ) (h : Hint) → item_bought seed (is_checked now) left now.hints team slot o ≡ bought h → IsBought now team slot h
item_is seed now left team slot None h e = absurd (subst IsBuy (sym e) tt)
item_is seed now left team slot (Some id) h e =
    let p = (λ (x : Held). is_owner seed x.receiver slot && int_eq x.item id && is_open (is_checked now) now.hints team x) in
    paid_is now team slot (cost seed slot) left (first_where p seed.locations) h
    (λ x is. open_none now team x (and_parts (is_owner seed x.receiver slot && int_eq x.item id) (is_open (is_checked now) now.hints team x) (first_holds p seed.locations x is)).1) e

location_is : (seed : Seed) (now : Standing) (left team slot : ℕ) (o : Option Held) (h : Hint) → location_bought seed (is_checked now) left now.hints team slot o ≡ bought h → IsBought now team slot h
location_is seed now left team slot None h e = absurd (subst IsBuy (sym e) tt)
location_is seed now left team slot (Some held) h e =
    let p = is_open (is_checked now) now.hints team in
    paid_is now team slot (cost seed slot) left (first_if p (Some held)) h (λ x is. open_none now team x (only_holds p (Some held) x is)) e

-- what is bought has no hint yet, and its buyer pays
pub bought_is : (seed : Seed) (now : Standing) (left team slot : ℕ) (w : Wanted) (h : Hint) → bought_for seed (is_checked now) left now.hints team slot w ≡ bought h → IsBought now team slot h
bought_is seed now left team slot (item_wanted name) h e = item_is seed now left team slot (item_named seed slot name) h e
bought_is seed now left team slot (location_wanted name) h e = location_is seed now left team slot (held_named seed slot (location_named seed slot name)) h e
