-- A joint, a number, a placement and spheres have one seed file.
use Rattle.std.proofs.Common.{◌≡◌, ◌⊎◌, ℕ, zero, suc, List, [], ◌∷◌, map, nat_cmp, Ordering, Less, Greater, IsPermutation, inl, inr, refl, sym, ap, ap₂, subst, ◌∙◌, arith}
use Rattle.std.specs.Cmp.{IsTotalOrder}
use Rattle.std.specs.Cmp.Lexicographic.{slice_cmp}
use Rattle.std.specs.List.{Contains}
use Rattle.std.specs.Ordering.{ordering_reverse}
use Rattle.std.proofs.lemmas.Cmp.{nat_list_cmp_total}
use Rattle.std.proofs.lemmas.List.Sorted.{Contains-permutation, IsPermutation-sym}
use Rattle.mw_model.specs.Seed.{Seed, Game, NamedId, Held, Spot}
use Rattle.mw_multi.specs.World.{World}
use Rattle.mw_multi.specs.Joint as joined
use Rattle.mw_multi.specs.Placement.{Put}
use Rattle.mw_model.specs.Ascending.{Ascend, ComesBefore}
use Rattle.mw_multidata.specs.SeedKept.{entry_name, game_name, held_cmp}
use Rattle.mw_seeds.specs.SeedFile.{IsTable, IsGameOf, IsPlayed, HasGameOf, AreGames, AreLocations, SeedFile}
use Rattle.mw_multidata.proofs.NamesKept.{held_total}
use Rattle.mw_seeds.proofs.Elements.{holds_in}
use Rattle.mw_seeds.proofs.SeedPlays.{OneWorldEach}

-- ---- ascending lists of the same elements

module _ {X : Type 0} where
  in_more : (x : X) (xs : List X) (z : X) → Contains xs z → Contains (x ∷ xs) z
  in_more x xs z (k, l, e) = (suc k, omega arith, e)

  in_first : (x : X) (xs : List X) (z : X) → Contains (x ∷ xs) z → (z ≡ x) ⊎ Contains xs z
  in_first x xs z (zero, l, e) = inl (sym e)
  in_first x xs z (suc k, l, e) = inr (k, omega arith, e)

module _ {K : Type 0} (cmp : K → K → Ordering) (total : IsTotalOrder cmp) {X : Type 0} (key : X → K) where
  apart : (a b : K) → cmp a b ≡ Less → cmp b a ≡ Less → ⊥
  apart a b p q = let other : cmp a b ≡ Greater = total.antisymm a b ∙ ap ordering_reverse q in cc

  comes_before : (k : K) (xs : List X) (x : X) → ComesBefore cmp k (map key xs) → Contains xs x → cmp k (key x) ≡ Less
  comes_before k [] x c h = absurd (omega (arith, h.1))
  comes_before k (y ∷ xs) x c (zero, l, e) = subst (λ z. cmp k (key z) ≡ Less) e c.0
  comes_before k (y ∷ xs) x c (suc i, l, e) = comes_before k xs x c.1 (i, omega arith, e)

  heads : (x y : X) (a b : List X) → ComesBefore cmp (key x) (map key a) → ComesBefore cmp (key y) (map key b) → (x ≡ y) ⊎ Contains b x → (y ≡ x) ⊎ Contains a y → x ≡ y
  heads x y a b p q (inl e) h = e
  heads x y a b p q (inr g) (inl e) = sym e
  heads x y a b p q (inr g) (inr h) = absurd (apart (key x) (key y) (comes_before (key x) a y p h) (comes_before (key y) b x q g))

  kept : (x y : X) (a b : List X) → x ≡ y → ComesBefore cmp (key x) (map key a) → (z : X) → Contains a z → (z ≡ y) ⊎ Contains b z → Contains b z
  kept x y a b same c z h (inl e) =
      let itself : cmp (key x) (key x) ≡ Less = subst (λ w. cmp (key x) (key w) ≡ Less) (e ∙ sym same) (comes_before (key x) a z c h) in
      absurd (apart (key x) (key x) itself itself)
  kept x y a b same c z h (inr k) = k

  same_lists : (a b : List X) → Ascend cmp (map key a) → Ascend cmp (map key b) → ((z : X) → Contains a z → Contains b z) → ((z : X) → Contains b z → Contains a z) → a ≡ b
  same_lists [] [] p q f g = refl
  same_lists [] (y ∷ b) p q f g = let h : Contains [] y = g y (0, omega arith, refl) in absurd (omega (arith, h.1))
  same_lists (x ∷ a) [] p q f g = let h : Contains [] x = f x (0, omega arith, refl) in absurd (omega (arith, h.1))
  same_lists (x ∷ a) (y ∷ b) p q f g =
      let same : x ≡ y = heads x y a b p.0 q.0 (in_first y b x (f x (0, omega arith, refl))) (in_first x a y (g y (0, omega arith, refl))) in
      ap₂ ◌∷◌ same (same_lists a b p.1 q.1
      (λ z h. kept x y a b same p.0 z h (in_first y b z (f z (in_more x a z h))))
      (λ z h. kept y x b a (sym same) q.0 z h (in_first x a z (g z (in_more y b z h)))))

  -- the same, of two orders of one list
  same_orders : (xs a b : List X) → IsPermutation xs a → IsPermutation xs b → Ascend cmp (map key a) → Ascend cmp (map key b) → a ≡ b
  same_orders xs a b p q c d =
      same_lists a b c d
      (λ z h. Contains-permutation xs b z q (Contains-permutation a xs z (IsPermutation-sym xs a p) h))
      (λ z h. Contains-permutation xs a z p (Contains-permutation b xs z (IsPermutation-sym xs b q) h))

-- ---- games

one_table : (entries a b : List NamedId) → IsTable entries a → IsTable entries b → a ≡ b
one_table entries a b p q = same_orders (slice_cmp nat_cmp) nat_list_cmp_total entry_name entries a b p.same q.same p.ascend q.ascend

one_game : (w : World) (g h : Game) → IsGameOf w g → IsGameOf w h → g ≡ h
one_game w g h p q =
    let name : g.name ≡ h.name = p.name ∙ sym q.name in
    let items : g.item_name_to_id ≡ h.item_name_to_id = one_table _ _ _ p.items q.items in
    let locations : g.location_name_to_id ≡ h.location_name_to_id = one_table _ _ _ p.locations q.locations in
    λ i. record { name = name i; item_name_to_id = items i; location_name_to_id = locations i }

named_one : (games : List Game) (name : List ℕ) → Contains (map game_name games) name → (g : Game) × Contains games g × (g.name ≡ name)
named_one [] name (k, l, e) = absurd (omega arith)
named_one (g ∷ games) name (zero, l, e) = (g, (0, omega arith, refl), e)
named_one (g ∷ games) name (suc k, l, e) = let r = named_one games name (k, omega arith, e) in (r.0, in_more g games r.0 r.1, r.2)

module _ (slots : List joined.Slot) (one : OneWorldEach slots) where
  in_other : (a b : List Game) → AreGames slots a → AreGames slots b → (g : Game) → Contains a g → Contains b g
  in_other a b p q g h =
      let mine : IsPlayed slots g = holds_in (IsPlayed slots) a g p.played h in
      let named : HasGameOf b mine.0 = holds_in (HasGameOf b) slots mine.0 q.all mine.1 in
      let found = named_one b mine.0.world.game named in
      let theirs : IsPlayed slots found.0 = holds_in (IsPlayed slots) b found.0 q.played found.1 in
      let worlds : mine.0.world ≡ theirs.0.world = one mine.0 theirs.0 mine.1 theirs.1 (sym found.2 ∙ theirs.2.name) in
      let same : g ≡ found.0 = one_game theirs.0.world g found.0 (subst (λ (w : World). IsGameOf w g) worlds mine.2) theirs.2 in
      subst (Contains b) (sym same) found.1

  one_games : (a b : List Game) → AreGames slots a → AreGames slots b → a ≡ b
  one_games a b p q = same_lists (slice_cmp nat_cmp) nat_list_cmp_total game_name a b p.ascend q.ascend (in_other a b p q) (in_other b a q p)

-- ---- the whole

as_it_is : {X : Type 0} (xs : List X) → map (λ x. x) xs ≡ xs
as_it_is [] = refl
as_it_is (x ∷ xs) = ap (λ ys. x ∷ ys) (as_it_is xs)

one_order : (joint : joined.Joint) (puts : List Put) (a b : List Held) → AreLocations joint puts a → AreLocations joint puts b → a ≡ b
one_order joint puts a b p q =
    same_orders held_cmp held_total (λ (h : Held). h) _ a b p.same q.same (subst (Ascend held_cmp) (sym (as_it_is a)) p.ascend) (subst (Ascend held_cmp) (sym (as_it_is b)) q.ascend)

pub one_file : (joint : joined.Joint) (number : ℕ) (puts : List Put) (spheres : List (List Spot)) (a b : Seed) → OneWorldEach joint.slots → SeedFile joint number puts spheres a → SeedFile joint number puts spheres b → a ≡ b
one_file joint number puts spheres a b one p q =
    let name : a.seed_name ≡ b.seed_name = p.seed_name ∙ sym q.seed_name in
    let teams : a.teams ≡ b.teams = p.teams ∙ sym q.teams in
    let server : a.server ≡ b.server = p.server ∙ sym q.server in
    let games : a.games ≡ b.games = one_games joint.slots one a.games b.games p.games q.games in
    let slots : a.slots ≡ b.slots = p.slots ∙ sym q.slots in
    let groups : a.groups ≡ b.groups = p.groups ∙ sym q.groups in
    let locations : a.locations ≡ b.locations = one_order joint puts a.locations b.locations p.locations q.locations in
    let same : a.spheres ≡ b.spheres = p.spheres ∙ sym q.spheres in
    λ i. record { seed_name = name i; teams = teams i; server = server i; games = games i; slots = slots i; groups = groups i; locations = locations i; spheres = same i }
