-- The test of two values is true exactly where they are the same.
use Rattle.std.proofs.Common.{◌≡◌, ◌↔◌, Bool, true, false, IsTrue, bytes_eq, refl, sym, ap, ap₂, ◌∙◌, ◌&&◌}
use Rattle.std.proofs.lemmas.Slice.Eq.{bytes_eq-Decides}
use Rattle.std.proofs.lemmas.Bool.Decides.{Decides-int_eq}
use Rattle.mw_model.specs.Json.{Json, null, flag, whole, not_whole, numeral, words, many, members, Items, no_items, item, Members, no_members, member}
use Rattle.mw_protocol.specs.Equal.{json_eq, items_eq, members_eq}

both : (a b : Bool) → a && b ≡ true → (a ≡ true) × (b ≡ true)
both true b h = (refl, h)
both false b h = cc

mutual
  pub json_eq-refl : (j : Json) → json_eq j j ≡ true
  json_eq-refl null = refl
  json_eq-refl (flag true) = refl
  json_eq-refl (flag false) = refl
  json_eq-refl (whole z) = (Decides-int_eq z z).1 refl
  json_eq-refl not_whole = refl
  json_eq-refl (numeral s) = (bytes_eq-Decides s s).1 refl
  json_eq-refl (words s) = (bytes_eq-Decides s s).1 refl
  json_eq-refl (many js) = items_eq-refl js
  json_eq-refl (members ms) = members_eq-refl ms

  pub items_eq-refl : (js : Items) → items_eq js js ≡ true
  items_eq-refl no_items = refl
  items_eq-refl (item j js) = rw (json_eq-refl j) (items_eq-refl js)

  pub members_eq-refl : (ms : Members) → members_eq ms ms ≡ true
  members_eq-refl no_members = refl
  members_eq-refl (member k j ms) = rw ((bytes_eq-Decides k k).1 refl, json_eq-refl j) (members_eq-refl ms)

mutual
  pub json_eq-same : (j k : Json) → json_eq j k ≡ true → j ≡ k
  json_eq-same null null h = refl
  json_eq-same (flag true) (flag true) h = refl
  json_eq-same (flag true) (flag false) h = cc
  json_eq-same (flag false) (flag true) h = cc
  json_eq-same (flag false) (flag false) h = refl
  json_eq-same (whole a) (whole b) h = ap whole ((Decides-int_eq a b).0 h)
  json_eq-same not_whole not_whole h = refl
  json_eq-same (numeral s) (numeral t) h = ap numeral ((bytes_eq-Decides s t).0 h)
  json_eq-same (words s) (words t) h = ap words ((bytes_eq-Decides s t).0 h)
  json_eq-same (many js) (many ks) h = ap many (items_eq-same js ks h)
  json_eq-same (members ms) (members ns) h = ap members (members_eq-same ms ns h)
  json_eq-same _ _ h = cc

  pub items_eq-same : (js ks : Items) → items_eq js ks ≡ true → js ≡ ks
  items_eq-same no_items no_items h = refl
  items_eq-same (item j js) (item k ks) h = let p = both (json_eq j k) (items_eq js ks) h in ap₂ item (json_eq-same j k p.0) (items_eq-same js ks p.1)
  items_eq-same _ _ h = cc

  pub members_eq-same : (ms ns : Members) → members_eq ms ns ≡ true → ms ≡ ns
  members_eq-same no_members no_members h = refl
  members_eq-same (member k j ms) (member l i ns) h =
      let p = both (bytes_eq k l && json_eq j i) (members_eq ms ns) h in
      let q = both (bytes_eq k l) (json_eq j i) p.0 in
      let name : k ≡ l = (bytes_eq-Decides k l).0 q.0 in
      let value : j ≡ i = json_eq-same j i q.1 in
      let rest : ms ≡ ns = members_eq-same ms ns p.1 in
      cc
  members_eq-same _ _ h = cc

pub test_is : (test : Bool) (j k : Json) → (IsTrue test ↔ (j ≡ k)) → test ≡ json_eq j k
test_is true j k h = sym (ap (λ i. json_eq i k) (h.0 refl) ∙ json_eq-refl k)
test_is false j k h = by (json_eq j k) refl
  where
    by : (b : Bool) → json_eq j k ≡ b → false ≡ json_eq j k
    by true e = h.1 (json_eq-same j k e) ∙ sym e
    by false e = sym e
