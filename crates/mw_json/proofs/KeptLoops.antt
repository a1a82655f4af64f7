-- The grammar's loops, a turn at a time, under the kept reading.
use Rattle.std.proofs.Common.{◌≡◌, ℕ, zero, suc, ◌+◌, ◌-◌, ◌<◌, ◌≤◌, List, [], ◌∷◌, ◌++◌, map, take, get_or, length, Option, Some, None, String, Global, Ordering, Less, Equal, Greater, string_bytes, string_cmp, nat_cmp, refl, sym, ap, ◌∙◌, subst, arith}
use Rattle.std.proofs.lemmas.List.{map-append, take_more}
use Rattle.std.specs.BTreeMap.{insert_entry}
use Rattle.std.specs.Cmp.Lexicographic.{slice_cmp}
use Rattle.std.specs.Ordering.{match_ordering}
use Rattle.json.specs.Token.{Token}
use Rattle.json.specs.Json as json
use Rattle.json.proofs.Grammar.{items_end, items_more, members_end, members_more}
use Rattle.mw_model.specs.Json.{Json, many, members, Items, no_items, item, Members, no_members, member, depth, items_depth, members_depth}
use Rattle.mw_model.specs.Trees.{items_of, set_member}
use Rattle.mw_json.specs.Entries.{entries_view}
use Rattle.mw_json.specs.KeptReading.{kept_value, kept_items, kept_members}
use Rattle.mw_json.specs.View.{view, items_view, member_view, members_of, members_view}
use Rattle.mw_json.specs.declared.tree.Member.{Member}
use Rattle.mw_json.specs.declared.tree.Tree.{Tree}
use Rattle.mw_json.proofs.Trees.{shallow_item, shallow_member}

abbrev pick : {A : Type 0} → A → Option A → A
pick d None = d
pick d (Some a) = a

-- what was read, of which value
came_of : {A B : Type 0} (f : A → B) (o : Option (A × List Token)) (b : B) (r : List Token) → json.parse_map f o ≡ Some (b, r) → (a : A) × (o ≡ Some (a, r)) × (f a ≡ b)
came_of f None b r e = absurd cc
came_of f (Some p) b r e = let same = ap (pick (f p.0, p.1)) e in (p.0, ap (λ q. Some (p.0, q.1)) same, ap (λ q. q.0) same)

pub none_from : {A B : Type 0} (f : A → B) (o : Option (A × List Token)) → json.parse_map f o ≡ None → o ≡ None
none_from f None e = refl
none_from f (Some p) e = absurd cc

pub kept-array : (o : Option (json.Items × List Token)) → json.parse_map kept_value (json.parse_map json.array o) ≡ json.parse_map many (json.parse_map kept_items o)
kept-array None = refl
kept-array (Some p) = refl

pub kept-object : (o : Option (json.Members × List Token)) → json.parse_map kept_value (json.parse_map json.object o) ≡ json.parse_map members (json.parse_map (λ ms. kept_members ms no_members) o)
kept-object None = refl
kept-object (Some p) = refl

with_item : (j : json.Json) (k : Json) → kept_value j ≡ k → (o : Option (json.Items × List Token)) → json.parse_map kept_items (json.parse_map (json.item j) o) ≡ json.parse_map (item k) (json.parse_map kept_items o)
with_item j k e None = refl
with_item j k e (Some p) = ap (λ x. Some (item x (kept_items p.0), p.1)) e

with_member : (name : List ℕ) (j : json.Json) (k : Json) (done : Members) → kept_value j ≡ k → (o : Option (json.Members × List Token))
    → json.parse_map (λ ms. kept_members ms done) (json.parse_map (json.member name j) o) ≡ json.parse_map (λ ms. kept_members ms (set_member name k done)) o
with_member name j k done e None = refl
with_member name j k done e (Some p) = ap (λ x. Some (kept_members p.0 (set_member name x done), p.1)) e

module _ (p : json.Parse json.Json) where
  pub item_read : (n : ℕ) (ts r : List Token) (k : Json) → 0 < n → json.after_end_array ts ≡ None → json.parse_map kept_value (p ts) ≡ Some (k, r)
      → json.parse_map kept_items (json.items p n ts) ≡ json.parse_map (item k) (json.parse_map kept_items (json.items p (n - 1) r))
  item_read n ts r k some going e =
      let j = came_of kept_value (p ts) k r e in
      ap (json.parse_map kept_items) (items_more p n ts r j.0 some going j.1) ∙ with_item j.0 k j.2 (json.items p (n - 1) r)

  pub items_over : (n : ℕ) (ts r : List Token) → length ts ≤ n → json.after_end_array ts ≡ Some r → json.parse_map kept_items (json.items p n ts) ≡ Some (no_items, r)
  items_over n ts r enough e = ap (json.parse_map kept_items) (items_end p n ts r enough e)

  module _ (done : Members) where
    pub member_read : (n : ℕ) (name : List ℕ) (ts s r : List Token) (k : Json) → 0 < n → json.read_key ts ≡ Some (Some name, s) → json.parse_map kept_value (p s) ≡ Some (k, r)
        → json.parse_map (λ ms. kept_members ms done) (json.members p n ts) ≡ json.parse_map (λ ms. kept_members ms (set_member name k done)) (json.members p (n - 1) r)
    member_read n name ts s r k some key e =
        let j = came_of kept_value (p s) k r e in
        ap (json.parse_map (λ ms. kept_members ms done)) (members_more p n name ts s r j.0 some key j.1) ∙ with_member name j.0 k done j.2 (json.members p (n - 1) r)

    pub members_over : (n : ℕ) (ts r : List Token) → length ts ≤ n → json.read_key ts ≡ Some (None, r) → json.parse_map (λ ms. kept_members ms done) (json.members p n ts) ≡ Some (done, r)
    members_over n ts r enough e = ap (json.parse_map (λ ms. kept_members ms done)) (members_end p n ts r enough e)

-- ---- a list that grows at its end

abbrev pub items_before : List Tree → Items → Items
items_before [] rest = rest
items_before (t ∷ ts) rest = item (view t) (items_before ts rest)

pub items_before-no_items : (ts : List Tree) → items_before ts no_items ≡ items_view ts
items_before-no_items [] = refl
items_before-no_items (t ∷ ts) = ap (item (view t)) (items_before-no_items ts)

items_push : (ts : List Tree) (t : Tree) (rest : Items) → items_before ts (item (view t) rest) ≡ items_before (ts ++ t ∷ []) rest
items_push [] t rest = refl
items_push (u ∷ ts) t rest = ap (item (view u)) (items_push ts t rest)

pub one_more_item : (ts : List Tree) (t : Tree) (r : Option (Items × List Token)) → json.parse_map (items_before ts) (json.parse_map (item (view t)) r) ≡ json.parse_map (items_before (ts ++ t ∷ [])) r
one_more_item ts t None = refl
one_more_item ts t (Some p) = ap (λ js. Some (js, p.1)) (items_push ts t p.0)

pub none_before : (r : Option (Items × List Token)) → r ≡ json.parse_map (λ a. a) r
none_before None = refl
none_before (Some p) = refl

-- ---- how deep the first elements are

pub more_within : (ts : List Tree) (i : ℕ) (t : Tree) (n : ℕ) → i < length ts → t ≡ get_or ts i t → items_depth (items_view (take i ts)) ≤ n → depth (view t) ≤ n
    → items_depth (items_view (take (i + 1) ts)) ≤ n
more_within ts i t n lt is before here =
    let grown : take (i + 1) ts ≡ take i ts ++ t ∷ [] = take_more ts i t lt ∙ ap (λ u. take i ts ++ u ∷ []) (sym is) in
    subst (λ js. items_depth (items_of js) ≤ n) (sym (ap (map view) grown ∙ map-append view (take i ts) (t ∷ []))) (shallow_item (map view (take i ts)) (view t) n before here)

pub item_at : (ts : List Tree) (i : ℕ) (t : Tree) → i < length ts → t ≡ get_or ts i t → depth (view t) ≤ items_depth (items_view ts)
item_at [] i t lt is = absurd (omega arith)
item_at (u ∷ ts) zero t lt is = let same : depth (view t) ≡ depth (view u) = ap (λ x. depth (view x)) is in omega (arith, same)
item_at (u ∷ ts) (suc i) t lt is = omega (arith, item_at ts i t (omega arith) is)

pub more_members_within : (ms : List Member) (i : ℕ) (m : Member) (n : ℕ) → i < length ms → m ≡ get_or ms i m → members_depth (members_view (take i ms)) ≤ n → depth (member_view m).1 ≤ n
    → members_depth (members_view (take (i + 1) ms)) ≤ n
more_members_within ms i m n lt is before here =
    let grown : take (i + 1) ms ≡ take i ms ++ m ∷ [] = take_more ms i m lt ∙ ap (λ u. take i ms ++ u ∷ []) (sym is) in
    subst (λ ks. members_depth (members_of ks) ≤ n) (sym (ap (map member_view) grown ∙ map-append member_view (take i ms) (m ∷ []))) (shallow_member (map member_view (take i ms)) (member_view m) n before here)

pub member_at : (ms : List Member) (i : ℕ) (m : Member) → i < length ms → m ≡ get_or ms i m → depth (member_view m).1 ≤ members_depth (members_view ms)
member_at [] i m lt is = absurd (omega arith)
member_at (k ∷ ms) zero m lt is = let same : depth (member_view m).1 ≡ depth (member_view k).1 = ap (λ x. depth (member_view x).1) is in omega (arith, same)
member_at (k ∷ ms) (suc i) m lt is = omega (arith, member_at ms i m (omega arith) is)

-- ---- a map of trees beside the members that it stands for

abbrev pub Entry : Type 0
Entry = String Global × Tree

pub entries-insert : (es : List Entry) (k : String Global) (t : Tree) → entries_view (insert_entry string_cmp es k t) ≡ set_member (string_bytes k) (view t) (entries_view es)
entries-insert [] k t = refl
entries-insert (e ∷ es) k t =
    let name = string_bytes e.0 in
    let old = entries_view es in
    let Is : Ordering → Type 0 = λ o. entries_view (match_ordering o ((k, t) ∷ e ∷ es) ((e.0, t) ∷ es) (e ∷ insert_entry string_cmp es k t))
    ≡ (elim o [ Less ↦ member (string_bytes k) (view t) (member name (view e.1) old) | Equal ↦ member name (view t) old | Greater ↦ member name (view e.1) (set_member (string_bytes k) (view t) old) ]) in
    elim (slice_cmp nat_cmp (string_bytes k) name) as Is [ Less ↦ refl | Equal ↦ refl | Greater ↦ ap (member name (view e.1)) (entries-insert es k t) ]
