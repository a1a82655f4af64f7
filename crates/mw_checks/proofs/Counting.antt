-- A location that isn't flagged leaves room in its owner's row.
use Rattle.std.proofs.Common.{◌≡◌, ◌≢◌, ℕ, zero, suc, ◌+◌, ◌/◌, ◌<◌, ◌≤◌, ◌==◌, ◌&&◌, inl, inr, Vec, Global, List, [], ◌∷◌, ◌++◌, Bool, true, false, not, cond, length, map, get_or, set, drop, replicate, refl, sym, ap, ap₂, ◌∙◌, subst, arith}
use Rattle.std.proofs.lemmas.Bool.{eq-eqb}
use Rattle.std.proofs.lemmas.Bool.Decides.{eqb_tells}
use Rattle.std.proofs.lemmas.List.{drop_more, get_or_read, get_or-set_same, get_or-set_other}
use Rattle.std.specs.Prelude.{vec_len, vec_capacity}
use Rattle.std.specs.List.{count_by}
use Rattle.std.proofs.lemmas.List.Recursion.{is_count_by}
use Rattle.mw_model.specs.Seed.{Held}
use Rattle.mw_checks.specs.Rows.{seat, one_if, many_of, awaited, finder_of, AllBelow, Fit, Owners, PutFor, Counts, Empty}

pub nobody : Owners
nobody = λ _. false

less_if : (b x y : Bool) → (x ≡ true → y ≡ true) → one_if (b && not y) ≤ one_if (b && not x)
less_if false x y h = omega arith
less_if true false true h = omega arith
less_if true false false h = omega arith
less_if true true y h = let set_too : y ≡ true = h refl in rw set_too (omega arith)

flag_stays : (done : List Bool) (k i : ℕ) → get_or done i false ≡ true → get_or (set done k true) i false ≡ true
flag_stays [] k i h = h
flag_stays (d ∷ done) zero zero h = refl
flag_stays (d ∷ done) zero (suc i) h = h
flag_stays (d ∷ done) (suc k) zero h = h
flag_stays (d ∷ done) (suc k) (suc i) h = flag_stays done k i h

-- one flag more leaves no more to come
fewer : (done : List Bool) (k team slot n : ℕ) (os : List Owners) → awaited (set done k true) team slot n os ≤ awaited done team slot n os
fewer done k team slot n [] = omega arith
fewer done k team slot n (o ∷ os) =
    omega (arith, less_if (o slot) (get_or done (seat n team) false) (get_or (set done k true) (seat n team) false) (flag_stays done k (seat n team)), fewer done k team slot (n + 1) os)

-- and one less where it is one of these
one_fewer : (done : List Bool) (team slot n j k : ℕ) (os : List Owners) → n + j ≡ k → j < length os → get_or os j nobody slot ≡ true → seat k team < length done → get_or done (seat k team) false ≡ false
    → awaited (set done (seat k team) true) team slot n os + 1 ≤ awaited done team slot n os
one_fewer done team slot n j k [] at w own there free = absurd (omega arith)
one_fewer done team slot n zero k (o ∷ os) at w own there free =
    let here : k ≡ n = omega arith in
    let marked : get_or (set done (seat k team) true) (seat n team) false ≡ true = ap (λ m. get_or (set done (seat k team) true) (seat m team) false) (sym here) ∙ get_or-set_same done (seat k team) true false there in
    let unmarked : get_or done (seat n team) false ≡ false = ap (λ m. get_or done (seat m team) false) (sym here) ∙ free in
    let after : one_if (o slot && not (get_or (set done (seat k team) true) (seat n team) false)) ≡ one_if (o slot && false) = ap (λ (b : Bool). one_if (o slot && not b)) marked in
    let before : one_if (o slot && not (get_or done (seat n team) false)) ≡ 1 = ap₂ (λ (a b : Bool). one_if (a && not b)) own unmarked in
    let none : one_if (o slot && false) ≡ 0 = ap (λ (b : Bool). one_if (b && false)) own in
    omega (arith, after, before, none, fewer done (seat k team) team slot (n + 1) os)
one_fewer done team slot n (suc j) k (o ∷ os) at w own there free =
    let rest : awaited (set done (seat k team) true) team slot (n + 1) os + 1 ≤ awaited done team slot (n + 1) os = one_fewer done team slot (n + 1) j k os (omega arith) (omega arith) own there free in
    omega (arith, less_if (o slot) (get_or done (seat n team) false) (get_or (set done (seat k team) true) (seat n team) false) (flag_stays done (seat k team) (seat n team)), rest)

-- a flag that is no place of theirs changes nothing
awaited_apart : (done : List Bool) (team slot n k : ℕ) (os : List Owners) → ((m : ℕ) → n ≤ m → seat m team ≢ k) → awaited (set done k true) team slot n os ≡ awaited done team slot n os
awaited_apart done team slot n k [] apart = refl
awaited_apart done team slot n k (o ∷ os) apart =
    ap₂ (λ (b : Bool) (m : ℕ). one_if (o slot && not b) + m) (get_or-set_other done k (seat n team) true false (apart n (omega arith)))
    (awaited_apart done team slot (n + 1) k os (λ m h. apart m (omega arith)))

unmarked_one : (b : Bool) → one_if (b && false) + one_if b ≡ one_if (b && true)
unmarked_one true = refl
unmarked_one false = refl

-- a flag more leaves exactly one less to come where its owner is the slot
awaited_marked : (done : List Bool) (team slot n j k : ℕ) (os : List Owners) → n + j ≡ k → j < length os → seat k team < length done → get_or done (seat k team) false ≡ false
    → awaited (set done (seat k team) true) team slot n os + one_if (get_or os j nobody slot) ≡ awaited done team slot n os
awaited_marked done team slot n j k [] at w there free = absurd (omega arith)
awaited_marked done team slot n zero k (o ∷ os) at w there free =
    let here : k ≡ n = omega arith in
    let marked : get_or (set done (seat k team) true) (seat n team) false ≡ true = ap (λ m. get_or (set done (seat k team) true) (seat m team) false) (sym here) ∙ get_or-set_same done (seat k team) true false there in
    let unmarked : get_or done (seat n team) false ≡ false = ap (λ m. get_or done (seat m team) false) (sym here) ∙ free in
    let after : one_if (o slot && not (get_or (set done (seat k team) true) (seat n team) false)) ≡ one_if (o slot && false) = ap (λ (b : Bool). one_if (o slot && not b)) marked in
    let before : one_if (o slot && not (get_or done (seat n team) false)) ≡ one_if (o slot && true) = ap (λ (b : Bool). one_if (o slot && not b)) unmarked in
    let rest : awaited (set done (seat k team) true) team slot (n + 1) os ≡ awaited done team slot (n + 1) os = awaited_apart done team slot (n + 1) (seat k team) os (λ m h e. omega (arith, e)) in
    omega (arith, after, before, unmarked_one (o slot), rest)
awaited_marked done team slot n (suc j) k (o ∷ os) at w there free =
    let first : get_or (set done (seat k team) true) (seat n team) false ≡ get_or done (seat n team) false = get_or-set_other done (seat k team) (seat n team) true false (λ e. omega (arith, e)) in
    let same : one_if (o slot && not (get_or (set done (seat k team) true) (seat n team) false)) ≡ one_if (o slot && not (get_or done (seat n team) false)) = ap (λ (b : Bool). one_if (o slot && not b)) first in
    let rest : awaited (set done (seat k team) true) team slot (n + 1) os + one_if (get_or os j nobody slot) ≡ awaited done team slot (n + 1) os = awaited_marked done team slot (n + 1) j k os (omega arith) (omega arith) there free in
    omega (arith, same, rest)

-- of an owner's places one more is flagged in a team, so one less is to come there
pub awaited_less : (done : List Bool) (team slot in_team k : ℕ) (owners : Owners) (os : List Owners) → team < 8 → in_team < 8 → k < length os → get_or os k nobody ≡ owners → seat k in_team < length done → get_or done (seat k in_team) false ≡ false
    → awaited (set done (seat k in_team) true) team slot 0 os + one_if ((in_team == team) && owners slot) ≡ awaited done team slot 0 os
awaited_less done team slot in_team k owners os t u w own there free =
    elim (eqb_tells in_team team) [
      | inl e ↦
          subst (λ x. awaited (set done (seat k in_team) true) x slot 0 os + one_if ((in_team == team) && owners slot) ≡ awaited done x slot 0 os) e.1
          (ap (λ (b : Bool). awaited (set done (seat k in_team) true) in_team slot 0 os + one_if (b && owners slot)) e.0
          ∙ ap (λ (o : Owners). awaited (set done (seat k in_team) true) in_team slot 0 os + one_if (o slot)) (sym own)
          ∙ awaited_marked done in_team slot 0 k k os (omega arith) w there free)
      | inr e ↦
          let same : awaited (set done (seat k in_team) true) team slot 0 os ≡ awaited done team slot 0 os = awaited_apart done team slot 0 (seat k in_team) os (λ m h at. e.1 (omega (arith, at))) in
          let none : one_if ((in_team == team) && owners slot) ≡ 0 = ap (λ (b : Bool). one_if (b && owners slot)) e.0 in
          omega (arith, same, none)
    ]

-- what isn't flagged has its place
pub row_has_room : (owners : List Owners) (done : List Bool) (rows : List (Vec ℕ Global)) (team slot n : ℕ) (d : Vec ℕ Global) → Fit owners done rows → team < 8 → n < length owners → slot ≤ 1024 → get_or owners n nobody slot ≡ true
    → seat n team < length done → get_or done (seat n team) false ≡ false → vec_len (get_or rows (seat slot team) d) < vec_capacity (get_or rows (seat slot team) d)
row_has_room owners done rows team slot n d f t w s own there free =
    omega (arith, f.room team slot d t s, one_fewer done team slot 0 n n owners (omega arith) w own there free)

below_more : (many : ℕ) (ns : List ℕ) (n : ℕ) (b : Bool) → AllBelow many ns → n < many → AllBelow many (ns ++ cond b (n ∷ []) [])
below_more many [] n true h w = (w, tt)
below_more many [] n false h w = tt
below_more many (m ∷ ms) n b h w = (h.0, below_more many ms n b h.1 w)

-- the rows fit with a number more in its owners' rows
pub fits_put : (owners : List Owners) (done : List Bool) (rows new : List (Vec ℕ Global)) (team n : ℕ) → Fit owners done rows → team < 8 → n < length owners
    → seat n team < length done → get_or done (seat n team) false ≡ false → PutFor (get_or owners n nobody) team n rows new → Fit owners (set done (seat n team) true) new
fits_put owners done rows new team n f t w there free p =
    record {
      many = p.many ∙ f.many;
      room = λ u s d k l. elim (eqb_tells u team) [
        | inl e ↦
            let here : vec_len (get_or new (seat s team) d) + awaited (set done (seat n team) true) team s 0 owners ≤ vec_capacity (get_or new (seat s team) d) =
            omega (arith, p.len s d l, p.space s d l, f.room team s d t l, awaited_marked done team s 0 n n owners (omega arith) w there free) in
            subst (λ x. vec_len (get_or new (seat s x) d) + awaited (set done (seat n team) true) x s 0 owners ≤ vec_capacity (get_or new (seat s x) d)) (sym e.1) here
        | inr e ↦
            subst (λ (v : Vec ℕ Global). vec_len v + awaited (set done (seat n team) true) u s 0 owners ≤ vec_capacity v) (sym (p.others u s d k e.1))
            (omega (arith, f.room u s d k l, fewer done (seat n team) u s 0 owners))
      ];
      within = λ u s d k l. elim (eqb_tells u team) [
        | inl e ↦
            let here : AllBelow (length owners) (get_or new (seat s team) d).items =
            subst (AllBelow (length owners)) (sym (p.items s d l)) (below_more (length owners) (get_or rows (seat s team) d).items n (get_or owners n nobody s) (f.within team s d t l) w) in
            subst (λ x. AllBelow (length owners) (get_or new (seat s x) d).items) (sym e.1) here
        | inr e ↦ subst (λ (v : Vec ℕ Global). AllBelow (length owners) v.items) (sym (p.others u s d k e.1)) (f.within u s d k l)
      ];
    }

-- ---- the beginning

pub get_or-replicate_same : {X : Type 0} (many i : ℕ) (x : X) → get_or (replicate many x) i x ≡ x
get_or-replicate_same zero i x = refl
get_or-replicate_same (suc many) zero x = refl
get_or-replicate_same (suc many) (suc i) x = get_or-replicate_same many i x

and_true : (b : Bool) → one_if (b && true) ≡ one_if b
and_true true = refl
and_true false = refl

-- with no flag all are to come
pub all_awaited : (many team slot n : ℕ) (os : List Owners) → awaited (replicate many false) team slot n os ≡ many_of slot os
all_awaited many team slot n [] = refl
all_awaited many team slot n (o ∷ os) =
    ap₂ (λ (x y : ℕ). x + y) (ap (λ (b : Bool). one_if (o slot && not b)) (get_or-replicate_same many (seat n team) false) ∙ and_true (o slot)) (all_awaited many team slot (n + 1) os)

-- empty rows of memory for all that may come
pub fits_none : (owners : List Owners) (counts : List ℕ) (many : ℕ) (rows : List (Vec ℕ Global)) → Counts owners counts → Empty counts rows → Fit owners (replicate many false) rows
fits_none owners counts many rows c e = record {
  many = e.many;
  room = λ team slot d t s.
      let at : seat slot team < 8200 = omega arith in
      let is_slot : seat slot team / 8 ≡ slot = omega arith in
      let asked : get_or counts slot 0 ≤ vec_capacity (get_or rows (seat slot team) d) = subst (λ i. get_or counts i 0 ≤ vec_capacity (get_or rows (seat slot team) d)) is_slot (e.room (seat slot team) d at) in
      omega (arith, asked, e.len (seat slot team) d at, c slot s, all_awaited many team slot 0 owners);
  within = λ team slot d t s. subst (AllBelow (length owners)) (sym (e.items (seat slot team) d (omega arith))) tt;
}

-- ---- counts

pub other_number : (a b : ℕ) → a ≢ b → (a == b) ≡ false
other_number a b h = elim (eqb_tells a b) [ inl e ↦ absurd (h e.1) | inr e ↦ e.0 ]

-- one more is counted for a slot
pub counted_one : (counts : List ℕ) (n x slot : ℕ) → n < length counts → x ≡ get_or counts n x → get_or (set counts n (x + 1)) slot 0 ≡ get_or counts slot 0 + one_if (n == slot)
counted_one counts n x slot within is =
    let value : x ≡ get_or counts n 0 = get_or_read counts n x within is 0 in
    elim (eqb_tells slot n) [
      | inl e ↦
          let one : one_if (n == slot) ≡ 1 = ap one_if (eq-eqb n slot (sym e.1)) in
          let now : get_or (set counts n (x + 1)) slot 0 ≡ x + 1 = ap (λ k. get_or (set counts n (x + 1)) k 0) e.1 ∙ get_or-set_same counts n (x + 1) 0 within in
          let was : get_or counts slot 0 ≡ x = ap (λ k. get_or counts k 0) e.1 ∙ sym value in
          omega (arith, one, now, was)
      | inr e ↦
          let none : one_if (n == slot) ≡ 0 = ap one_if (other_number n slot (λ q. e.1 (sym q))) in
          let now : get_or (set counts n (x + 1)) slot 0 ≡ get_or counts slot 0 = get_or-set_other counts n slot (x + 1) 0 e.1 in
          omega (arith, none, now)
    ]

-- so many are counted after the first ones, and so many to come
pub counted_next : (f : Held → Owners) (hs : List Held) (i slot : ℕ) (h : Held) → i < length hs → h ≡ get_or hs i h → many_of slot (map f (drop i hs)) ≡ one_if (f h slot) + many_of slot (map f (drop (i + 1) hs))
counted_next f hs i slot h w is =
    ap (λ (xs : List Held). many_of slot (map f xs)) (drop_more hs i h w) ∙ ap (λ (x : Held). one_if (f x slot) + many_of slot (map f (drop (i + 1) hs))) (sym is)

pub few_of : (b : Bool) → one_if b ≤ 1
few_of true = omega arith
few_of false = omega arith

-- ---- a slot's locations

owned_more : (b : Bool) (n : ℕ) → one_if b + n ≡ cond b (1 + n) n
owned_more true n = refl
owned_more false n = omega arith

-- as many owners are the slot as locations are its
pub many_owned : (slot : ℕ) (hs : List Held) → many_of slot (map finder_of hs) ≡ count_by (λ h. h.slot == slot) hs
many_owned slot hs = is_count_by (λ xs. many_of slot (map finder_of xs)) (λ h. h.slot == slot) refl (λ x xs. owned_more (x.slot == slot) (many_of slot (map finder_of xs))) hs
