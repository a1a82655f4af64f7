-- What stands at a place, as one put more is noted or put.
use Rattle.std.proofs.Common.{◌≡◌, ◌≢◌, ◌<◌, ◌+◌, ◌-◌, ◌==◌, ℕ, List, [], ◌∷◌, ◌++◌, Bool, true, false, cond, Option, Some, None, length, drop, get_or, set, slice_index_or, slice_set, refl, sym, ap, subst, ◌∙◌, inl, inr, arith}
use Rattle.std.specs.Prelude.{All}
use Rattle.std.proofs.lemmas.Bool.{cases_Bool, cond-true, cond-false}
use Rattle.std.proofs.lemmas.Bool.Decides.{Decides-eqb}
use Rattle.std.proofs.lemmas.List.{drop_more, get_or-set_same, get_or-set_other}
use Rattle.mw_multi.specs.Joint.{Joint, place_total}
use Rattle.mw_multi.specs.Placement.{Put, PutKept, what_stands}
use Rattle.mw_multi.proofs.Standing.{site_within}

pub stands_more : (puts : List Put) (put : Put) (place : ℕ) (b : Bool) → (put.place == place) ≡ b → what_stands puts place ≡ None → what_stands (puts ++ put ∷ []) place ≡ cond b (Some put) None
stands_more [] put place b e h = ap (λ c. cond c (Some put) None) e
stands_more (p ∷ puts) put place b e h = elim (cases_Bool (p.place == place)) [
  | inl here ↦ let s : Some p ≡ None = sym (cond-true (p.place == place) (Some p) (what_stands puts place) here) ∙ h in cc
  | inr past ↦ cond-false (p.place == place) (Some p) (what_stands (puts ++ put ∷ []) place) past ∙ stands_more puts put place b e (sym (cond-false (p.place == place) (Some p) (what_stands puts place) past) ∙ h)
]

pub stands_still : (puts : List Put) (put : Put) (place : ℕ) → (put.place == place) ≡ false → what_stands (puts ++ put ∷ []) place ≡ what_stands puts place
stands_still [] put place e = cond-false (put.place == place) (Some put) None e
stands_still (p ∷ puts) put place e = ap (λ rest. cond (p.place == place) (Some p) rest) (stands_still puts put place e)

pub differ : (a b : ℕ) → (a ≡ b → ⊥) → (a == b) ≡ false
differ a b n = elim (cases_Bool (a == b)) [
  | inl same ↦ absurd (n ((Decides-eqb a b).0 same))
  | inr other ↦ other
]

-- ---- puts noted from the last to the first

-- a put of the placement is at one of the joint's places
pub put_fits : (joint : Joint) (listed puts : List Put) (k : ℕ) (p : Put) → All (PutKept joint) puts → listed ≡ puts → k < length listed → p ≡ get_or listed k p → p.place < place_total joint.slots
put_fits joint listed puts k p kept same h is =
    let put : PutKept joint p = subst (PutKept joint) (sym is) (subst (All (PutKept joint)) (sym same) kept k p h) in
    site_within 1 joint.slots p.place put.place

apart : (a b : ℕ) → (a == b) ≡ false → b ≢ a
apart a b e same = let equal = (Decides-eqb a b).1 (sym same) in cc

by_place : (stands : List (Option Put)) (p : Put) (rest : List Put) (q : ℕ) (b : Bool) → (p.place == q) ≡ b → p.place < length stands → slice_index_or stands q None ≡ what_stands rest q
    → slice_index_or (slice_set stands p.place (Some p)) q None ≡ cond b (Some p) (what_stands rest q)
by_place stands p rest q true e h later =
    let same : p.place ≡ q = (Decides-eqb p.place q).0 e in
    ap (λ k. get_or (set stands p.place (Some p)) k None) (sym same) ∙ get_or-set_same stands p.place (Some p) None h
by_place stands p rest q false e h later = get_or-set_other stands p.place q (Some p) None (apart p.place q e) ∙ later

-- one put more, before those that are noted
pub one_more_stands : (stands : List (Option Put)) (listed puts : List Put) (done : ℕ) (p : Put) → listed ≡ puts → done < length listed → p ≡ get_or listed (length listed - 1 - done) p → p.place < length stands
    → ((q : ℕ) → slice_index_or stands q None ≡ what_stands (drop (length puts - done) puts) q)
    → (q : ℕ) → slice_index_or (slice_set stands p.place (Some p)) q None ≡ what_stands (drop (length puts - (done + 1)) puts) q
one_more_stands stands listed puts done p same h is fits later q =
    let k = length listed - 1 - done in
    let next : k + 1 ≡ length puts - done = omega (arith, h, ap length same) in
    let at : k ≡ length puts - (done + 1) = omega (arith, h, ap length same) in
    let rest : slice_index_or stands q None ≡ what_stands (drop (k + 1) puts) q = later q ∙ ap (λ n. what_stands (drop n puts) q) (sym next) in
    let split : drop k puts ≡ p ∷ drop (k + 1) puts = drop_more puts k p (omega (arith, h, ap length same)) ∙ ap (λ x. x ∷ drop (k + 1) puts) (sym (is ∙ ap (λ xs. get_or xs k p) same)) in
    by_place stands p (drop (k + 1) puts) q (p.place == q) refl fits rest ∙ ap (λ xs. what_stands xs q) (sym split) ∙ ap (λ n. what_stands (drop n puts) q) at
