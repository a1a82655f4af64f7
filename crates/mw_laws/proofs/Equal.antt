-- Values that pass the test are the same.
use Rattle.std.proofs.Common.{◌≡◌, true, false, refl, ap, ap₂, ◌∙◌, ◌&&◌, bytes_eq}
use Rattle.std.proofs.lemmas.Bool.{and_parts, false≢true}
use Rattle.std.proofs.lemmas.Bool.Decides.{Decides-int_eq}
use Rattle.std.proofs.lemmas.Slice.Eq.{bytes_eq-Decides}
use Rattle.mw_model.specs.Json.{Json, null, flag, whole, not_whole, numeral, words, many, members, Items, no_items, item, Members, no_members, member}
use Rattle.mw_protocol.specs.Equal.{json_eq, items_eq, members_eq}

mutual
  pub json_same : (j k : Json) → json_eq j k ≡ true → j ≡ k
  json_same null null h = refl
  json_same (flag true) (flag true) h = refl
  json_same (flag true) (flag false) h = absurd (false≢true h)
  json_same (flag false) (flag true) h = absurd (false≢true h)
  json_same (flag false) (flag false) h = refl
  json_same (whole a) (whole b) h = ap whole ((Decides-int_eq a b).0 h)
  json_same not_whole not_whole h = refl
  json_same (numeral s) (numeral t) h = ap numeral ((bytes_eq-Decides s t).0 h)
  json_same (words s) (words t) h = ap words ((bytes_eq-Decides s t).0 h)
  json_same (many js) (many ks) h = ap many (items_same js ks h)
  json_same (members ms) (members ns) h = ap members (members_same ms ns h)
  json_same _ _ h = absurd (false≢true h)

  items_same : (js ks : Items) → items_eq js ks ≡ true → js ≡ ks
  items_same no_items no_items h = refl
  items_same (item j js) (item k ks) h = let parts = and_parts (json_eq j k) (items_eq js ks) h in ap₂ item (json_same j k parts.0) (items_same js ks parts.1)
  items_same _ _ h = absurd (false≢true h)

  members_same : (ms ns : Members) → members_eq ms ns ≡ true → ms ≡ ns
  members_same no_members no_members h = refl
  members_same (member k j ms) (member l i ns) h =
      let parts = and_parts (bytes_eq k l && json_eq j i) (members_eq ms ns) h in
      let first = and_parts (bytes_eq k l) (json_eq j i) parts.0 in
      ap₂ (λ name value. member name value ms) ((bytes_eq-Decides k l).0 first.0) (json_same j i first.1) ∙ ap (member l i) (members_same ms ns parts.1)
  members_same _ _ h = absurd (false≢true h)
