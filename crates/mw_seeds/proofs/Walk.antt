-- Where the locations of tables, in ascending order, and a seed file's entries first differ.
use Rattle.std.proofs.Common.{◌≡◌, ◌&&◌, ◌==◌, ℕ, ℤ, List, [], ◌∷◌, Bool, true, false, Option, Some, None, int_eq, Ordering, Less, Equal, Greater, refl, sym, ap, subst, ◌∙◌, arith}
use Rattle.std.specs.Prelude.{if◌then◌else◌, is_some}
use Rattle.std.specs.Ordering.{ordering_reverse}
use Rattle.mw_model.specs.Seed.{Held, held_among}
use Rattle.mw_model.specs.Ascending.{Ascend}
use Rattle.mw_multidata.specs.SeedKept.{held_cmp}
use Rattle.mw_multidata.proofs.NamesKept.{held_total}
use Rattle.mw_seeds.specs.Agreeing.{agrees_with, location_cmp}
use Rattle.mw_seeds.specs.FilePuts.{earlier_of}
use Rattle.mw_seeds.specs.Keys.{entry_at, fits_at, first_other}
use Rattle.mw_seeds.proofs.Apart.{is_at, at_it, none_before, none_earlier, first_there, earlier_first, earlier_second, earlier_tied}

module _ (fits : Held → Bool) where
  abbrev pub agree : List Held → List Held → ℕ → ℤ → Bool
  agree ds hs s l = agrees_with fits (is_some (held_among ds s l)) (held_among hs s l)

  -- there they differ, and before they don't
  pub record DifferAt (ds hs : List Held) (x : Held) : Type 0 where
    pub differs : agree ds hs x.slot x.location ≡ false
    pub earlier : (s : ℕ) (l : ℤ) → location_cmp s l x.slot x.location ≡ Less → agree ds hs s l ≡ true

  by : (a b : Option Held) (c d : Option Held) → a ≡ b → c ≡ d → agrees_with fits (is_some a) c ≡ agrees_with fits (is_some b) d
  by a b c d e f = ap (λ o. agrees_with fits (is_some o) c) e ∙ ap (agrees_with fits (is_some b)) f

  module _ (d h : Held) (ds hs : List Held) (dsc : Ascend held_cmp (d ∷ ds)) (hsc : Ascend held_cmp (h ∷ hs)) where
    heads_differ : fits_at fits d h ≡ false → (o : Ordering) → held_cmp d h ≡ o → DifferAt (d ∷ ds) (h ∷ hs) (earlier_of d h)
    heads_differ f Less is = subst (DifferAt (d ∷ ds) (h ∷ hs)) (sym (earlier_first d h is)) record {
      differs = by _ (Some d) _ None (first_there d ds) (none_earlier d.slot d.location h hs is hsc);
      earlier = λ s l e. by _ None _ None (none_earlier s l d ds e dsc) (none_earlier s l h hs (held_total.trans (entry_at s l) d h e is) hsc);
    }
    heads_differ f Greater is =
        let back : held_cmp h d ≡ Less = held_total.antisymm h d ∙ ap ordering_reverse is in
        subst (DifferAt (d ∷ ds) (h ∷ hs)) (sym (earlier_second d h is)) record {
          differs = by _ None _ (Some h) (none_earlier h.slot h.location d ds back dsc) (first_there h hs);
          earlier = λ s l e. by _ None _ None (none_earlier s l d ds (held_total.trans (entry_at s l) h d e back) dsc) (none_earlier s l h hs e hsc);
        }
    heads_differ f Equal is =
        let slot : d.slot ≡ h.slot = grind (arith, is) in
        let location : d.location ≡ h.location = grind (arith, is) in
        let right : held_among (h ∷ hs) d.slot d.location ≡ Some h =
        ap (λ s. held_among (h ∷ hs) s d.location) slot ∙ ap (λ l. held_among (h ∷ hs) h.slot l) location ∙ first_there h hs in
        let none : fits h ≡ false = grind (arith, f, slot, location) in
        subst (DifferAt (d ∷ ds) (h ∷ hs)) (sym (earlier_tied d h is)) record {
          differs = by _ (Some d) _ (Some h) (first_there d ds) right ∙ none;
          earlier = λ s l e.
              let also : location_cmp s l h.slot h.location ≡ Less = subst (λ n. location_cmp s l n h.location ≡ Less) slot (subst (λ m. location_cmp s l d.slot m ≡ Less) location e) in
              by _ None _ None (none_earlier s l d ds e dsc) (none_earlier s l h hs also hsc);
        }

    module _ (f : fits_at fits d h ≡ true) where
      one_slot : d.slot ≡ h.slot
      one_slot = grind (arith, f)

      one_location : d.location ≡ h.location
      one_location = grind (arith, f)

      it_fits : fits h ≡ true
      it_fits = grind (arith, f)

      one_place : (s : ℕ) (l : ℤ) → is_at s l h ≡ is_at s l d
      one_place s l = ap (λ n. (n == s) && int_eq h.location l) (sym one_slot) ∙ ap (λ i. (d.slot == s) && int_eq i l) (sym one_location)

      at_heads : (s : ℕ) (l : ℤ) (b : Bool) → is_at s l d ≡ b → agree (d ∷ ds) (h ∷ hs) s l ≡ (if b then true else agree ds hs s l)
      at_heads s l true e =
          by _ (Some d) _ (Some h) (ap (λ c. if c then Some d else held_among ds s l) e) (ap (λ c. if c then Some h else held_among hs s l) (one_place s l ∙ e)) ∙ it_fits
      at_heads s l false e =
          by _ (held_among ds s l) _ (held_among hs s l) (ap (λ c. if c then Some d else held_among ds s l) e) (ap (λ c. if c then Some h else held_among hs s l) (one_place s l ∙ e))

      one_of : (b c : Bool) → c ≡ true → (if b then true else c) ≡ true
      one_of true c e = refl
      one_of false c e = e

      -- what agrees past the heads agrees with them
      pub more_agree : (s : ℕ) (l : ℤ) → agree ds hs s l ≡ true → agree (d ∷ ds) (h ∷ hs) s l ≡ true
      more_agree s l e = at_heads s l (is_at s l d) refl ∙ one_of (is_at s l d) (agree ds hs s l) e

      -- past the heads nothing is at their location
      none_there : (s : ℕ) (l : ℤ) → is_at s l d ≡ true → agree ds hs s l ≡ true
      none_there s l e =
          let at = at_it s l d e in
          let other = at_it s l h (one_place s l ∙ e) in
          let first : held_among ds s l ≡ None = subst (λ n. held_among ds n l ≡ None) at.0 (subst (λ i. held_among ds d.slot i ≡ None) at.1 (none_before d.slot d.location ds dsc.0)) in
          let second : held_among hs s l ≡ None = subst (λ n. held_among hs n l ≡ None) other.0 (subst (λ i. held_among hs h.slot i ≡ None) other.1 (none_before h.slot h.location hs hsc.0)) in
          by _ None _ None first second

      still : (s : ℕ) (l : ℤ) (b : Bool) → is_at s l d ≡ b → agree ds hs s l ≡ false → agree (d ∷ ds) (h ∷ hs) s l ≡ false
      still s l true e g = let never : true ≡ false = sym (none_there s l e) ∙ g in cc
      still s l false e g = at_heads s l false e ∙ g

      pub tail_differs : (x : Held) → DifferAt ds hs x → DifferAt (d ∷ ds) (h ∷ hs) x
      tail_differs x k = record {
        differs = still x.slot x.location (is_at x.slot x.location d) refl k.differs;
        earlier = λ s l e. more_agree s l (k.earlier s l e);
      }

    by_heads : (x : Held) (b : Bool) → fits_at fits d h ≡ b → (if b then first_other fits ds hs else Some (earlier_of d h)) ≡ Some x → (first_other fits ds hs ≡ Some x → DifferAt ds hs x) → DifferAt (d ∷ ds) (h ∷ hs) x
    by_heads x true f e rest = tail_differs f x (rest e)
    by_heads x false f e rest =
        let same : earlier_of d h ≡ x = cc in
        subst (DifferAt (d ∷ ds) (h ∷ hs)) same (heads_differ f (held_cmp d h) refl)

    none_differs : (b : Bool) → fits_at fits d h ≡ b → (if b then first_other fits ds hs else Some (earlier_of d h)) ≡ None → (first_other fits ds hs ≡ None → (s : ℕ) (l : ℤ) → agree ds hs s l ≡ true) → (s : ℕ) (l : ℤ)
        → agree (d ∷ ds) (h ∷ hs) s l ≡ true
    none_differs true f e rest s l = more_agree f s l (rest e s l)
    none_differs false f e rest s l = cc

  pub differ_at : (ds hs : List Held) (x : Held) → Ascend held_cmp ds → Ascend held_cmp hs → first_other fits ds hs ≡ Some x → DifferAt ds hs x
  differ_at [] [] x dsc hsc e = cc
  differ_at [] (h ∷ hs) x dsc hsc e =
      let same : h ≡ x = cc in
      subst (DifferAt [] (h ∷ hs)) same record {
        differs = by None None _ (Some h) refl (first_there h hs);
        earlier = λ s l less. by None None _ None refl (none_earlier s l h hs less hsc);
      }
  differ_at (d ∷ ds) [] x dsc hsc e =
      let same : d ≡ x = cc in
      subst (DifferAt (d ∷ ds) []) same record {
        differs = by _ (Some d) None None (first_there d ds) refl;
        earlier = λ s l less. by _ None None None (none_earlier s l d ds less dsc) refl;
      }
  differ_at (d ∷ ds) (h ∷ hs) x dsc hsc e = by_heads d h ds hs dsc hsc x (fits_at fits d h) refl e (differ_at ds hs x dsc.1 hsc.1)

  pub agree_all : (ds hs : List Held) → Ascend held_cmp ds → Ascend held_cmp hs → first_other fits ds hs ≡ None → (s : ℕ) (l : ℤ) → agree ds hs s l ≡ true
  agree_all [] [] dsc hsc e s l = refl
  agree_all [] (h ∷ hs) dsc hsc e s l = cc
  agree_all (d ∷ ds) [] dsc hsc e s l = cc
  agree_all (d ∷ ds) (h ∷ hs) dsc hsc e s l = none_differs d h ds hs dsc hsc (fits_at fits d h) refl e (agree_all ds hs dsc.1 hsc.1) s l
