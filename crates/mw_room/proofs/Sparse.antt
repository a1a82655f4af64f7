-- Changes of a few sessions, by ascending index.
use Rattle.std.proofs.Common.{◌≡◌, ℕ, zero, suc, ◌+◌, ◌<◌, ◌≤◌, List, [], ◌∷◌, ◌++◌, Option, Some, None, length, map, get_or, take, drop, refl, sym, ap, ◌∙◌, subst, arith, append_assoc, length-take-le}
use Rattle.std.specs.Option.{option_to_list}
use Rattle.std.proofs.lemmas.List.{map-append, length-map, take_more, drop_more}
use Rattle.mw_base.specs.Space.{HasSpace}
use Rattle.mw_room.specs.Known.{Shown}
use Rattle.mw_room.specs.Fits.{ChangesFit}
use Rattle.mw_room.specs.Views.{session_view, at_index, changed, changed_by, IsChange}
use Rattle.mw_room.specs.declared.session.Session.{Session}
use Rattle.mw_room.specs.declared.session.Change.{Change}

-- all indices are below this one
abbrev pub Below : ℕ → List Change → Type 0
Below i [] = Unit {0}
Below i (c ∷ cs) = (c.at < i) × Below i cs

below_later : (i : ℕ) (cs : List Change) → Below i cs → Below (i + 1) cs
below_later i [] b = tt
below_later i (c ∷ cs) b = (omega (arith, b.0), below_later i cs b.1)

pub below_more : (i : ℕ) (cs : List Change) (o : Option Change) (due : ℕ → Shown → Shown) (s : Session) → IsChange o i due s → Below i cs → Below (i + 1) (cs ++ option_to_list o)
below_more i [] None due s h b = tt
below_more i [] (Some c) due s h b = (omega (arith, h.0), tt)
below_more i (x ∷ cs) o due s h b = (omega (arith, b.0), below_more i cs o due s h b.1)

-- one change more
pub fits_more : (from i : ℕ) (ss : List Session) (cs : List Change) (o : Option Change) (due : ℕ → Shown → Shown) (s : Session) → from ≤ i → i < length ss → ((d : Session) → get_or ss i d ≡ s)
    → IsChange o i due s → Below i cs → ChangesFit from ss cs → ChangesFit from ss (cs ++ option_to_list o)
fits_more from i ss [] None due s h w g is b f = tt
fits_more from i ss [] (Some c) due s h w g is b f =
    let same : i ≡ c.at = sym is.0 in (
      omega (arith, is.0),
      omega (arith, is.0),
      (λ d. subst (λ n. HasSpace (get_or ss n d).untaken c.growth 1) same (subst (λ (x : Session). HasSpace x.untaken c.growth 1) (sym (g d)) is.2)),
      tt,
    )
fits_more from i ss (c ∷ cs) o due s h w g is b f = (f.0, f.1, f.2, fits_more (c.at + 1) i ss cs o due s (omega (arith, b.0)) w g is b.1 f.3)

changed-more : (length : ℕ) (ss : List Shown) (cs ds : List Change) → changed length ss (cs ++ ds) ≡ changed length (changed length ss cs) ds
changed-more length ss [] ds = refl
changed-more length ss (c ∷ cs) ds = changed-more length (at_index (changed_by c length) c.at ss) cs ds

at_index-front : (f : Shown → Shown) (n : ℕ) (xs ys : List Shown) (s : Shown) → length xs ≡ n → at_index f n (xs ++ s ∷ ys) ≡ xs ++ f s ∷ ys
at_index-front f zero [] ys s h = refl
at_index-front f (suc n) [] ys s h = absurd (omega arith)
at_index-front f zero (x ∷ xs) ys s h = absurd (omega arith)
at_index-front f (suc n) (x ∷ xs) ys s h = ap (λ (zs : List Shown). x ∷ zs) (at_index-front f n xs ys s (omega arith))

-- the change of the session after these
changed_next : (len i : ℕ) (xs ys : List Shown) (s : Session) (o : Option Change) (due : ℕ → Shown → Shown) → length xs ≡ i → IsChange o i due s
    → changed len (xs ++ session_view s ∷ ys) (option_to_list o) ≡ xs ++ due len (session_view s) ∷ ys
changed_next len i xs ys s None due h is = ap (λ (x : Shown). xs ++ x ∷ ys) (sym (is len))
changed_next len i xs ys s (Some c) due h is =
    at_index-front (changed_by c len) c.at xs ys (session_view s) (h ∙ sym is.0)
    ∙ ap (λ (x : Shown). xs ++ x ∷ ys) (is.1 len)

-- one session more
pub changes_step : (due : ℕ → Shown → Shown) (ss : List Session) (i : ℕ) (d : Session) (cs : List Change) (o : Option Change) → i < length ss → IsChange o i due (get_or ss i d)
    → ((len : ℕ) → changed len (map session_view ss) cs ≡ map (due len) (map session_view (take i ss)) ++ map session_view (drop i ss))
    → (len : ℕ) → changed len (map session_view ss) (cs ++ option_to_list o) ≡ map (due len) (map session_view (take (i + 1) ss)) ++ map session_view (drop (i + 1) ss)
changes_step due ss i d cs o w is so len =
    let s = get_or ss i d in
    let front = map (due len) (map session_view (take i ss)) in
    let back = map session_view (drop (i + 1) ss) in
    let many : length front ≡ i = simp length-map (length-take-le i ss (omega arith)) in
    let more : map (due len) (map session_view (take (i + 1) ss)) ≡ front ++ due len (session_view s) ∷ [] =
    ap (λ (xs : List Session). map (due len) (map session_view xs)) (take_more ss i d w) ∙ ap (map (due len)) (map-append session_view (take i ss) (s ∷ [])) ∙ map-append (due len) (map session_view (take i ss)) (session_view s ∷ []) in
    changed-more len (map session_view ss) cs (option_to_list o)
    ∙ ap (λ (xs : List Shown). changed len xs (option_to_list o)) (so len ∙ ap (λ (xs : List Session). front ++ map session_view xs) (drop_more ss i d w))
    ∙ changed_next len i front back s o due many is
    ∙ sym (append_assoc front (due len (session_view s) ∷ []) back)
    ∙ ap (λ (xs : List Shown). xs ++ back) (sym more)
