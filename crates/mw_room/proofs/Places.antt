-- Sessions that change at an index, and by their number.
use Rattle.std.proofs.Common.{◌≡◌, ℕ, zero, suc, ◌+◌, ◌==◌, ◌<◌, ◌≤◌, ◌≢◌, List, [], ◌∷◌, ◌++◌, true, false, length, map, get_or, set, take, drop, cond, refl, sym, ap, ◌∙◌, subst, arith, append-nil, get_or-set_other}
use Rattle.std.proofs.lemmas.List.{length-set, take_all, drop_all}
use Rattle.mw_base.specs.Space.{HasSpace}
use Rattle.mw_room.specs.Known.{Shown, texts_at, emptied, emptied_among, leaves}
use Rattle.mw_room.specs.Fits.{ChangesFit}
use Rattle.mw_room.specs.Views.{session_view, at_index, place_in}
use Rattle.mw_room.specs.declared.session.Session.{Session}
use Rattle.mw_room.specs.declared.session.Change.{Change}

-- ---- at an index

pub put_there : (f : Shown → Shown) (ss : List Session) (i : ℕ) (s d : Session) → i < length ss → session_view s ≡ f (session_view (get_or ss i d)) → map session_view (set ss i s) ≡ at_index f i (map session_view ss)
put_there f [] i s d h e = absurd (omega arith)
put_there f (x ∷ ss) zero s d h e = ap (λ (y : Shown). y ∷ map session_view ss) e
put_there f (x ∷ ss) (suc i) s d h e = ap (λ (ys : List Shown). session_view x ∷ ys) (put_there f ss i s d (omega arith) e)

-- later changes still fit
pub fits_after : (from i : ℕ) (ss : List Session) (cs : List Change) (s : Session) → i < from → ChangesFit from ss cs → ChangesFit from (set ss i s) cs
fits_after from i ss [] s h f = tt
fits_after from i ss (c ∷ cs) s h f =
    let other : c.at ≢ i = omega (arith, f.0) in (
      f.0,
      omega (arith, length-set ss i s, f.1),
      (λ d. subst (λ (x : Session). HasSpace x.untaken c.growth 1) (sym (get_or-set_other ss i c.at s d other)) (f.2 d)),
      fits_after (c.at + 1) i ss cs s (omega (arith, f.0)) f.3,
    )

-- ---- by number

pub emptied_there : (ss : List Session) (n : ℕ) (s d : Session) → place_in n (map session_view ss) < length ss → session_view s ≡ emptied (session_view (get_or ss (place_in n (map session_view ss)) d))
    → map session_view (set ss (place_in n (map session_view ss)) s) ≡ emptied_among n (map session_view ss)
emptied_there [] n s d h e = absurd (omega arith)
emptied_there (x ∷ ss) n s d h e =
    let later = place_in n (map session_view ss) in
    (elim (x.number == n) as (λ b. cond b zero (suc later) < suc (length ss) → session_view s ≡ emptied (session_view (get_or (x ∷ ss) (cond b zero (suc later)) d))
    → map session_view (set (x ∷ ss) (cond b zero (suc later)) s) ≡ cond b (emptied (session_view x) ∷ map session_view ss) (session_view x ∷ emptied_among n (map session_view ss))) [
      | true ↦ (λ h e. ap (λ (y : Shown). y ∷ map session_view ss) e)
      | false ↦ (λ h e. ap (λ (ys : List Shown). session_view x ∷ ys) (emptied_there ss n s d (omega arith) e))
    ]) h e

pub texts_there : (ss : List Session) (n : ℕ) (d : Session) → place_in n (map session_view ss) < length ss → (get_or ss (place_in n (map session_view ss)) d).untaken.items ≡ texts_at n (map session_view ss)
texts_there [] n d h = absurd (omega arith)
texts_there (x ∷ ss) n d h =
    let later = place_in n (map session_view ss) in
    (elim (x.number == n) as (λ b. cond b zero (suc later) < suc (length ss) → (get_or (x ∷ ss) (cond b zero (suc later)) d).untaken.items ≡ cond b x.untaken.items (texts_at n (map session_view ss))) [
      | true ↦ (λ h. refl)
      | false ↦ (λ h. texts_there ss n d (omega arith))
    ]) h

pub leaves_there : (ss : List Session) (n : ℕ) → place_in n (map session_view ss) < length ss
    → map session_view (take (place_in n (map session_view ss)) ss ++ drop (suc (place_in n (map session_view ss))) ss) ≡ leaves n (map session_view ss)
leaves_there [] n h = absurd (omega arith)
leaves_there (x ∷ ss) n h =
    let later = place_in n (map session_view ss) in
    (elim (x.number == n) as (λ b. cond b zero (suc later) < suc (length ss)
    → map session_view (take (cond b zero (suc later)) (x ∷ ss) ++ drop (suc (cond b zero (suc later))) (x ∷ ss)) ≡ cond b (map session_view ss) (session_view x ∷ leaves n (map session_view ss))) [
      | true ↦ (λ h. refl)
      | false ↦ (λ h. ap (λ (ys : List Shown). session_view x ∷ ys) (leaves_there ss n (omega arith)))
    ]) h

-- nobody has the number
pub record Nobody (n : ℕ) (ss : List Shown) : Type 0 where
  pub emptied : emptied_among n ss ≡ ss
  pub leaves : leaves n ss ≡ ss
  pub texts : texts_at n ss ≡ []

pub nobody_there : (ss : List Shown) (n : ℕ) → length ss ≤ place_in n ss → Nobody n ss
nobody_there [] n h = record { emptied = refl; leaves = refl; texts = refl }
nobody_there (x ∷ ss) n h =
    let later : suc (length ss) ≤ suc (place_in n ss) → Nobody n ss = λ (k : suc (length ss) ≤ suc (place_in n ss)). nobody_there ss n (omega arith) in
    let three = (elim (x.number == n) as (λ b. suc (length ss) ≤ cond b zero (suc (place_in n ss))
    → (cond b (emptied x ∷ ss) (x ∷ emptied_among n ss) ≡ x ∷ ss) × (cond b ss (x ∷ leaves n ss) ≡ x ∷ ss) × (cond b x.texts (texts_at n ss) ≡ [])) [
      | true ↦ (λ k. absurd (omega arith))
      | false ↦ (λ k. (ap (λ (ys : List Shown). x ∷ ys) (later k).emptied, ap (λ (ys : List Shown). x ∷ ys) (later k).leaves, (later k).texts))
    ]) h in
    record { emptied = three.0; leaves = three.1; texts = three.2 }

-- a list that is written over as a whole
pub written_over : {X : Type 0} (n : ℕ) (new old : List X) → length new ≡ n → length old ≡ n → take n (new ++ drop (length new) old) ≡ new
written_over n new old h k =
    ap (λ xs. take n (new ++ xs)) (drop_all (length new) old (omega (arith, h, k))) ∙ ap (take n) (append-nil new) ∙ take_all n new (omega (arith, h))
