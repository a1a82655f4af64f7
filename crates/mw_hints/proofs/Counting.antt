-- How many hints each slot bought.
use Rattle.std.proofs.Common.{◌≡◌, ℕ, ℤ, ◌+◌, ◌≤◌, ◌==◌, ◌&&◌, ◌||◌, not, Some, List, [], ◌∷◌, ◌++◌, Bool, true, false, length, map, is_some, refl, ap₂, ◌∙◌, cond, arith}
use Rattle.std.proofs.lemmas.Bool.Decides.{Decides-and, Decides-eqb}
use Rattle.indexmap.specs.IndexMap.{IndexMap, get_by}
use Rattle.mw_protocol.specs.Checks.{Check, CheckedAt}
use Rattle.mw_protocol.specs.HintList.{is_at, hint_at, made, marked, bought_by, hinted_all, with_status}
use Rattle.mw_protocol.specs.Hints.{scouted_among, scouted_hint}
use Rattle.mw_protocol.specs.Records.{Hint, hint}
use Rattle.mw_hints.specs.Book.{count_or_none, counted}

abbrev pub is_bought : ℕ → ℕ → Hint → Bool
is_bought team slot h = h.bought && (h.team == team) && (h.buyer == slot)

-- one hint more
pub bought_more : (hs : List Hint) (h : Hint) (team slot : ℕ) → length (bought_by (hs ++ h ∷ []) team slot) ≡ length (bought_by hs team slot) + cond (is_bought team slot h) 1 0
bought_more [] h team slot = elim (is_bought team slot h) as (λ b. length (cond b (h ∷ []) []) ≡ 0 + cond b 1 0) [ true ↦ refl | false ↦ refl ]
bought_more (g ∷ hs) h team slot =
    elim (is_bought team slot g) as (λ b. length (cond b (g ∷ bought_by (hs ++ h ∷ []) team slot) (bought_by (hs ++ h ∷ []) team slot)) ≡ length (cond b (g ∷ bought_by hs team slot) (bought_by hs team slot)) + cond (is_bought team slot h) 1 0) [
      | true ↦ omega (arith, bought_more hs h team slot)
      | false ↦ bought_more hs h team slot
    ]

-- a status changes no count
pub bought_marked : (hs : List Hint) (at finder : ℕ) (location : ℤ) (s team slot : ℕ) → length (bought_by (marked hs at finder location s) team slot) ≡ length (bought_by hs team slot)
bought_marked [] at finder location s team slot = refl
bought_marked (h ∷ hs) at finder location s team slot =
    let rest = bought_marked hs at finder location s team slot in
    elim (is_at at finder location h) as (λ b. length (bought_by (cond b (with_status s h ∷ hs) (h ∷ marked hs at finder location s)) team slot) ≡ length (bought_by (h ∷ hs) team slot)) [
      | true ↦ elim (is_bought team slot h) as (λ c. length (cond c (with_status s h ∷ bought_by hs team slot) (bought_by hs team slot)) ≡ length (cond c (h ∷ bought_by hs team slot) (bought_by hs team slot))) [ true ↦ refl | false ↦ refl ]
      | false ↦ elim (is_bought team slot h) as (λ c. length (cond c (h ∷ bought_by (marked hs at finder location s) team slot) (bought_by (marked hs at finder location s) team slot)) ≡ length (cond c (h ∷ bought_by hs team slot) (bought_by hs team slot))) [ true ↦ omega (arith, rest) | false ↦ rest ]
    ]

pub few_bought : (hs : List Hint) (team slot : ℕ) → length (bought_by hs team slot) ≤ length hs
few_bought [] team slot = omega arith
few_bought (h ∷ hs) team slot =
    elim (is_bought team slot h) as (λ b. length (cond b (h ∷ bought_by hs team slot) (bought_by hs team slot)) ≤ length (h ∷ hs)) [
      | true ↦ omega (arith, few_bought hs team slot)
      | false ↦ omega (arith, few_bought hs team slot)
    ]

-- one is counted more
pub counted_more : {S : Type 0} (counts : IndexMap (ℕ × ℕ) ℕ S) (team slot t s n : ℕ) → n ≡ counted counts team slot
    → count_or_none (cond ((team == t) && (slot == s)) (Some (n + 1)) (get_by (λ k. (t == k.0) && (s == k.1)) counts)) ≡ counted counts t s + cond ((team == t) && (slot == s)) 1 0
counted_more counts team slot t s n is =
    (elim ((team == t) && (slot == s)) as (λ b. ((team == t) && (slot == s)) ≡ b → count_or_none (cond b (Some (n + 1)) (get_by (λ k. (t == k.0) && (s == k.1)) counts)) ≡ counted counts t s + cond b 1 0) [
      | true ↦ (λ test.
          let both = (Decides-and (team == t) (slot == s) (Decides-eqb team t) (Decides-eqb slot s)).0 test in
          let here : n ≡ counted counts t s = is ∙ ap₂ (λ x y. counted counts x y) both.0 both.1 in
          omega (arith, here))
      | false ↦ (λ test. omega arith)
    ]) refl

-- a hint that is made counts where there is none
pub bought_made : (hs : List Hint) (h : Hint) (team slot : ℕ)
    → length (bought_by (made hs h) team slot) ≡ length (bought_by hs team slot) + cond (is_bought team slot h && not (is_some (hint_at hs h.team h.finder h.location))) 1 0
bought_made hs h team slot =
    elim (is_some (hint_at hs h.team h.finder h.location)) as (λ b. length (bought_by (cond b hs (hs ++ h ∷ [])) team slot) ≡ length (bought_by hs team slot) + cond (is_bought team slot h && not b) 1 0) [
      | true ↦ elim (is_bought team slot h) as (λ p. length (bought_by hs team slot) ≡ length (bought_by hs team slot) + cond (p && false) 1 0) [ true ↦ omega arith | false ↦ omega arith ]
      | false ↦ bought_more hs h team slot ∙ elim (is_bought team slot h) as (λ p. length (bought_by hs team slot) + cond p 1 0 ≡ length (bought_by hs team slot) + cond (p && true) 1 0) [ true ↦ refl | false ↦ refl ]
    ]

-- nobody pays for hints that are scouted
pub bought_scouted : (found : CheckedAt) (gs hs : List Hint) (team slot : ℕ) (cs : List Check) (t s : ℕ)
    → length (bought_by (hinted_all hs (map hint (scouted_among found gs team slot cs))) t s) ≡ length (bought_by hs t s)
bought_scouted found gs hs team slot [] t s = refl
bought_scouted found gs hs team slot (c ∷ cs) t s =
    let rest = scouted_among found gs team slot cs in
    let h : Hint = scouted_hint team slot c in
    let one : length (bought_by (made hs h) t s) ≡ length (bought_by hs t s) = omega (arith, bought_made hs h t s) in
    elim (found team slot c.location || is_some (hint_at gs team slot c.location)) as (λ b. length (bought_by (hinted_all hs (map hint (cond b rest (h ∷ rest)))) t s) ≡ length (bought_by hs t s)) [
      | true ↦ bought_scouted found gs hs team slot cs t s
      | false ↦ bought_scouted found gs (made hs h) team slot cs t s ∙ one
    ]
