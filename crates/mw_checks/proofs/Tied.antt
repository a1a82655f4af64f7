-- How many of a slot's locations are checked, counted over the seed's.
use Rattle.std.proofs.Common.{◌≡◌, ℕ, ℤ, suc, ◌+◌, ◌<◌, ◌==◌, ◌&&◌, Vec, Global, List, [], ◌∷◌, ◌++◌, Bool, true, false, not, Some, length, map, get_or, refl, sym, ap, ap₂, ◌∙◌, subst, arith, append_assoc, cond}
use Rattle.std.specs.List.{count_by}
use Rattle.std.specs.Ordering.{int_eq, nat_cmp, int_cmp, ordering_then}
use Rattle.std.specs.Cmp.{nat_cmp_is, int_cmp_is}
use Rattle.std.specs.declared.cmp.Ordering.TheVariants.{Less, Equal}
use Rattle.std.proofs.lemmas.Bool.Decides.{Decides-and, Decides-eqb, Decides-int_eq}
use Rattle.std.proofs.lemmas.List.{length-append}
use Rattle.std.proofs.lemmas.List.Recursion.{is_count_by}
use Rattle.mw_model.specs.Seed.{Seed, Held}
use Rattle.mw_model.specs.Ascending.{Ascend, ComesBefore}
use Rattle.mw_multidata.specs.SeedKept.{IsSeed, held_cmp}
use Rattle.mw_protocol.specs.Checks.{Check, has_check, is_among, locations_in}
use Rattle.mw_checks.specs.Numbers.{number_among, number_of}
use Rattle.mw_checks.specs.Rows.{seat, flagged, one_if, many_of, awaited, finder_of, Keeps}
use Rattle.mw_checks.proofs.Keeping.{not_true}

-- ---- each location has the number of its place

comes_before : (x h : Held) (xs hs : List Held) → ComesBefore held_cmp x (xs ++ h ∷ hs) → held_cmp x h ≡ Less
comes_before x h [] hs b = b.0
comes_before x h (y ∷ xs) hs b = comes_before x h xs hs b.1

other_place : (x h : Held) → held_cmp x h ≡ Less → ((x.slot == h.slot) && int_eq x.location h.location) ≡ false
other_place x h less =
    not_true ((x.slot == h.slot) && int_eq x.location h.location) (λ test.
    let both = (Decides-and (x.slot == h.slot) (int_eq x.location h.location) (Decides-eqb x.slot h.slot) (Decides-int_eq x.location h.location)).0 test in
    let slots : Equal ≡ nat_cmp x.slot h.slot = nat_cmp_is x.slot h.slot Equal both.0 in
    let locations : Equal ≡ int_cmp x.location h.location = int_cmp_is x.location h.location Equal both.1 in
    let same : Equal ≡ Less = ap₂ ordering_then slots locations ∙ less in
    cc)

number_here : (n : ℕ) (h : Held) (xs hs : List Held) → Ascend held_cmp (xs ++ h ∷ hs) → number_among n (xs ++ h ∷ hs) h.slot h.location ≡ Some (n + length xs)
number_here n h [] hs ascend =
    let here : ((h.slot == h.slot) && int_eq h.location h.location) ≡ true = (Decides-and (h.slot == h.slot) (int_eq h.location h.location) (Decides-eqb h.slot h.slot) (Decides-int_eq h.location h.location)).1 (refl, refl) in
    let at : n ≡ n + 0 = omega arith in
    ap (λ (b : Bool). cond b (Some n) (number_among (n + 1) hs h.slot h.location)) here ∙ ap (λ m. Some m) at
number_here n h (x ∷ xs) hs ascend =
    let later : (n + 1) + length xs ≡ n + suc (length xs) = omega arith in
    ap (λ (b : Bool). cond b (Some n) (number_among (n + 1) (xs ++ h ∷ hs) h.slot h.location)) (other_place x h (comes_before x h xs hs ascend.0))
    ∙ number_here (n + 1) h xs hs ascend.1
    ∙ ap (λ m. Some m) later

-- ---- those that are checked, beside those that aren't

-- how many of these are the slot's and checked in the team
found_of : List Check → ℕ → ℕ → List Held → ℕ
found_of checked team slot [] = 0
found_of checked team slot (h ∷ hs) = one_if ((h.slot == slot) && is_among checked team slot h.location) + found_of checked team slot hs

one_more : (b : Bool) (n : ℕ) → one_if b + n ≡ cond b (1 + n) n
one_more true n = refl
one_more false n = omega arith

found_counts : (checked : List Check) (team slot : ℕ) (hs : List Held) → found_of checked team slot hs ≡ count_by (λ h. (h.slot == slot) && is_among checked team slot h.location) hs
unfolding found_of
found_counts checked team slot hs =
    is_count_by (found_of checked team slot) (λ h. (h.slot == slot) && is_among checked team slot h.location) refl (λ x xs. one_more ((x.slot == slot) && is_among checked team slot x.location) (found_of checked team slot xs)) hs

split_one : (own found flag : Bool) → (own ≡ true → flag ≡ found) → one_if (own && found) + one_if (own && not flag) ≡ one_if own
split_one false found flag same = refl
split_one true true flag same = let is : flag ≡ true = same refl in ap (λ (b : Bool). 1 + one_if (not b)) is
split_one true false flag same = let is : flag ≡ false = same refl in ap (λ (b : Bool). 0 + one_if (not b)) is

found_and_awaited : (seed : Seed) (checked : List Check) (done : List Bool) (team slot n : ℕ) (xs hs : List Held) → seed.locations ≡ xs ++ hs → n ≡ length xs → Ascend held_cmp seed.locations
    → ((s : ℕ) (l : ℤ) → flagged done team (number_of seed s l) ≡ has_check checked record { team = team; slot = s; location = l })
    → found_of checked team slot hs + awaited done team slot n (map finder_of hs) ≡ many_of slot (map finder_of hs)
unfolding found_of
found_and_awaited seed checked done team slot n xs [] e at ascend flags = refl
found_and_awaited seed checked done team slot n xs (h ∷ hs) e at ascend flags =
    let number : number_of seed h.slot h.location ≡ Some n =
    ap (λ (ls : List Held). number_among 0 ls h.slot h.location) e
    ∙ number_here 0 h xs hs (subst (Ascend held_cmp) e ascend)
    ∙ ap (λ m. Some m) (let is : 0 + length xs ≡ n = omega arith in is) in
    let flag : get_or done (seat n team) false ≡ is_among checked team h.slot h.location = ap (flagged done team) (sym number) ∙ flags h.slot h.location in
    let one : one_if ((h.slot == slot) && is_among checked team slot h.location) + one_if ((h.slot == slot) && not (get_or done (seat n team) false)) ≡ one_if (h.slot == slot) =
    split_one (h.slot == slot) (is_among checked team slot h.location) (get_or done (seat n team) false)
    (λ own. flag ∙ ap (λ (s : ℕ). is_among checked team s h.location) ((Decides-eqb h.slot slot).0 own)) in
    let more : n + 1 ≡ length (xs ++ h ∷ []) = omega (arith, length-append xs (h ∷ [])) in
    let rest : found_of checked team slot hs + awaited done team slot (n + 1) (map finder_of hs) ≡ many_of slot (map finder_of hs) =
    found_and_awaited seed checked done team slot (n + 1) (xs ++ h ∷ []) hs (e ∙ sym (append_assoc xs (h ∷ []) hs)) more ascend flags in
    omega (arith, one, rest)

-- as many of the slot's locations are checked as checks are of the slot
pub found_counted : (seed : Seed) (checked : List Check) (done : List Bool) (received found : List (Vec ℕ Global)) (team slot : ℕ) → IsSeed seed → Keeps seed checked done received found → team < 8
    → length (locations_in team slot checked) ≡ count_by (λ h. (h.slot == slot) && is_among checked team slot h.location) seed.locations
found_counted seed checked done received found team slot kept keeps t =
    let both = found_and_awaited seed checked done team slot 0 [] seed.locations refl refl kept.locations.ascend (λ s l. keeps.flags team s l t) in
    let all = keeps.counted team slot t in
    let same : length (locations_in team slot checked) ≡ found_of checked team slot seed.locations = omega (arith, both, all) in
    same ∙ found_counts checked team slot seed.locations
