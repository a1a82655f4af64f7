-- What a text's kept reading is: in range and in order, and it can be written.
use Rattle.std.proofs.Common.{◌≡◌, ℕ, List, Bool, true, false, cond, ◌&&◌, not, refl, ap₂, subst}
use Rattle.std.specs.Str.Parse.{signed_digits_value}
use Rattle.json.specs.Json as json
use Rattle.json.specs.Tree as tree
use Rattle.mw_model.specs.Json.{Json, whole, numeral, Items, Members, no_members, IsWritable, ItemsAreWritable, MembersAreWritable}
use Rattle.mw_numerals.specs.Numerals.{is_number, is_whole}
use Rattle.mw_numerals.proofs.Numerals.{whole_number, number_from}
use Rattle.mw_json.specs.KeptReading.{IsKeptReading, kept_value, kept_items, kept_members}
use Rattle.mw_json.specs.Valid.{IsValid, ItemsAreValid, MembersAreValid}
use Rattle.mw_json.proofs.KeptAgain.{numeral_is, range_is}
use Rattle.mw_json.proofs.KeptLemmas.{came, numbers}
use Rattle.mw_json.proofs.Setting.{set_valid, set_writable}

abbrev Good : Json → Type 0
Good j = IsValid j × IsWritable j

abbrev GoodItems : Items → Type 0
GoodItems js = ItemsAreValid js × ItemsAreWritable js

abbrev GoodMembers : Members → Type 0
GoodMembers ms = MembersAreValid ms × MembersAreWritable ms

number_good : (s : List ℕ) (whole_one : Bool) → is_number s ≡ true → is_whole s ≡ whole_one → Good (cond whole_one (whole (signed_digits_value 10 s)) (numeral s))
number_good s true n e = let r = range_is (signed_digits_value 10 s) (whole_number s e).0 in (r, r)
number_good s false n e = let is = numeral_is s (ap₂ (λ a b. a && not b) n e) in (is, is)

mutual
  good : (j : json.Json) → tree.HasNumbers j → Good (kept_value j)
  good json.null h = (tt, tt)
  good (json.boolean b) h = (tt, tt)
  good (json.number s) h = number_good s (is_whole s) (number_from s h) refl
  good (json.string s) h = (tt, tt)
  good (json.array js) h = items_good js h
  good (json.object ms) h = members_good ms no_members h (tt, tt)

  items_good : (js : json.Items) → tree.ItemsHaveNumbers js → GoodItems (kept_items js)
  items_good json.no_items h = (tt, tt)
  items_good (json.item j js) h =
      let one = good j h.0 in
      let rest = items_good js h.1 in
      ((one.0, rest.0), (one.1, rest.1))

  members_good : (ms : json.Members) (done : Members) → tree.MembersHaveNumbers ms → GoodMembers done → GoodMembers (kept_members ms done)
  members_good json.no_members done h g = g
  members_good (json.member k j ms) done h g =
      let one = good j h.0 in
      members_good ms _ h.1 (set_valid k (kept_value j) done one.0 g.0, set_writable k (kept_value j) done one.1 g.1)

pub kept_good : (text : List ℕ) (j : Json) → IsKeptReading text j → Good j
kept_good text j h = let c = came text j h.is in subst Good c.is (good c.value (numbers 127 text c.value c.tokens_are))
