-- The compact text of a tree is read as that tree.
use Rattle.std.proofs.Common.{◌≡◌, ℕ, ℤ, pos, negsuc, suc, ◌≤◌, List, [], ◌++◌, Option, Some, option_map, option_and_then, Less, Greater, nat_cmp, refl, sym, ap, ap₂, ◌∙◌, arith, append-nil}
use Rattle.std.proofs.lemmas.Cmp.{nat_list_cmp_total}
use Rattle.std.specs.Cmp.Lexicographic.{slice_cmp}
use Rattle.std.specs.Ordering.{ordering_reverse}
use Rattle.json.specs.Json as json
use Rattle.json.specs.Lex.{tokens}
use Rattle.json.specs.Token.{Token}
use Rattle.json.specs.Print.{IsNumber}
use Rattle.json.specs.Tree as tree
use Rattle.json.proofs.Printed.Decimals.{IsNumber-decimal, IsNumber-signed_decimal}
use Rattle.json.proofs.Printed.Tokens.{tokens-print}
use Rattle.json.proofs.Printed.Trees.{value-json_tokens, ArePrintable-json_tokens}
use Rattle.serde_json.specs.Data as found
use Rattle.serde_json.specs.Read as read
use Rattle.serde_json.proofs.Numbers.{number_of-decimal, number_of-negative}
use Rattle.mw_model.specs.Json.{Json, null, flag, whole, not_whole, numeral, words, many, members, Items, no_items, item, Members, no_members, member, depth, items_depth, members_depth, IsInRange, ComeAfter, IsWritable, ItemsAreWritable, MembersAreWritable, IsOrdered, ItemsAreOrdered, MembersAreOrdered, IsPlain, ItemsArePlain, MembersArePlain}
use Rattle.mw_json.specs.Reading.{of_data, of_items, of_members, of_number, reading, max_depth}
use Rattle.mw_model.specs.Spelling.{spelling, number_text, outline, items_outline, members_outline}

-- ---- members that are read in order

abbrev Below : found.Members → List ℕ → Type 0
Below found.no_members k = Unit {0}
Below (found.member l e ms) k = (slice_cmp nat_cmp l k ≡ Less) × Below ms k

abbrev AllBelow : found.Members → Members → Type 0
AllBelow done no_members = Unit {0}
AllBelow done (member k j ms) = Below done k × AllBelow done ms

abbrev followed_by : found.Members → found.Members → found.Members
followed_by found.no_members ds = ds
followed_by (found.member k d ms) ds = found.member k d (followed_by ms ds)

abbrev one : List ℕ → found.Data → found.Members
one k d = found.member k d found.no_members

put_after : (done : found.Members) (k : List ℕ) (d : found.Data) → Below done k → found.put k d done ≡ followed_by done (one k d)
put_after found.no_members k d h = refl
put_after (found.member l e ms) k d h =
    let above : slice_cmp nat_cmp k l ≡ Greater = nat_list_cmp_total.antisymm k l ∙ ap ordering_reverse h.0 in
    rw above (ap (found.member l e) (put_after ms k d h.1))

followed_twice : (done : found.Members) (k : List ℕ) (d : found.Data) (ds : found.Members) → followed_by (followed_by done (one k d)) ds ≡ followed_by done (found.member k d ds)
followed_twice found.no_members k d ds = refl
followed_twice (found.member l e ms) k d ds = ap (found.member l e) (followed_twice ms k d ds)

followed_by_none : (done : found.Members) → followed_by done found.no_members ≡ done
followed_by_none found.no_members = refl
followed_by_none (found.member k d ms) = ap (found.member k d) (followed_by_none ms)

below_one_more : (done : found.Members) (k l : List ℕ) (d : found.Data) → Below done l → slice_cmp nat_cmp k l ≡ Less → Below (followed_by done (one k d)) l
below_one_more found.no_members k l d h e = (e, tt)
below_one_more (found.member m x ms) k l d h e = (h.0, below_one_more ms k l d h.1 e)

all_below_one_more : (done : found.Members) (k : List ℕ) (d : found.Data) (ms : Members) → AllBelow done ms → ComeAfter k ms → AllBelow (followed_by done (one k d)) ms
all_below_one_more done k d no_members h a = tt
all_below_one_more done k d (member l j ms) h a = (below_one_more done k l d h.0 a.0, all_below_one_more done k d ms h.1 a.1)

none_below : (ms : Members) → AllBelow found.no_members ms
none_below no_members = tt
none_below (member k j ms) = (tt, none_below ms)

-- ---- numbers

number_again : (z : ℤ) → IsInRange z → (n : found.Num) × (read.number_of (number_text z) ≡ Some n) × (of_number n ≡ whole z)
number_again (pos n) h = (found.unsigned n, number_of-decimal n h, refl)
number_again (negsuc n) h = (found.negative (negsuc n), number_of-negative n h, refl)

number_is : (z : ℤ) → IsInRange z → IsNumber (number_text z)
number_is (pos n) h = IsNumber-decimal n h
number_is (negsuc n) h = IsNumber-signed_decimal (negsuc n) h

-- ---- the whole

abbrev Again : Json → Type 0
Again j = (d : found.Data) × (read.of_json (outline j) ≡ Some d) × (of_data d ≡ j)

mutual
  again : (j : Json) → IsWritable j → IsOrdered j → IsPlain j → Again j
  again null w o p = (found.null, refl, refl)
  again (flag b) w o p = (found.boolean b, refl, refl)
  again (whole z) w o p = let n = number_again z w in (found.number n.0, ap (option_map found.number) n.1, n.2)
  again not_whole w o p = absurd w
  again (numeral s) w o p = absurd p
  again (words s) w o p = (found.string s, refl, refl)
  again (many js) w o p = let r = items_again js w o p in (found.array r.0, ap (option_map found.array) r.1, ap many r.2)
  again (members ms) w o p = let r = members_again ms found.no_members w o p (none_below ms) in (found.object r.0, ap (option_map found.object) r.1, ap members r.2)

  items_again : (js : Items) → ItemsAreWritable js → ItemsAreOrdered js → ItemsArePlain js → (ds : found.Items) × (read.of_items (items_outline js) ≡ Some ds) × (of_items ds ≡ js)
  items_again no_items w o p = (found.no_items, refl, refl)
  items_again (item j js) w o p =
      let d = again j w.0 o.0 p.0 in
      let ds = items_again js w.1 o.1 p.1 in (
        found.item d.0 ds.0,
        ap (option_and_then (λ x. option_map (found.item x) (read.of_items (items_outline js)))) d.1 ∙ ap (option_map (found.item d.0)) ds.1,
        ap₂ item d.2 ds.2,
      )

  members_again : (ms : Members) (done : found.Members) → MembersAreWritable ms → MembersAreOrdered ms → MembersArePlain ms → AllBelow done ms
      → (ds : found.Members) × (read.of_members (members_outline ms) done ≡ Some (followed_by done ds)) × (of_members ds ≡ ms)
  members_again no_members done w o p b = (found.no_members, ap Some (sym (followed_by_none done)), refl)
  members_again (member k j ms) done w o p b =
      let d = again j w.0 o.0 p.0 in
      let rest = members_again ms (followed_by done (one k d.0)) w.1 o.2 p.1 (all_below_one_more done k d.0 ms b.1 o.1) in (
        found.member k d.0 rest.0,
        ap (option_and_then (λ x. read.of_members (members_outline ms) (found.put k x done))) d.1 ∙ ap (read.of_members (members_outline ms)) (put_after done k d.0 b.0)
            ∙ rest.1 ∙ ap Some (followed_twice done k d.0 rest.0),
        ap₂ (member k) d.2 rest.2,
      )

mutual
  numbers : (j : Json) → IsWritable j → tree.HasNumbers (outline j)
  numbers null w = tt
  numbers (flag b) w = tt
  numbers (whole z) w = number_is z w
  numbers not_whole w = tt
  numbers (numeral s) w = w.0
  numbers (words s) w = tt
  numbers (many js) w = items_numbers js w
  numbers (members ms) w = members_numbers ms w

  items_numbers : (js : Items) → ItemsAreWritable js → tree.ItemsHaveNumbers (items_outline js)
  items_numbers no_items w = tt
  items_numbers (item j js) w = (numbers j w.0, items_numbers js w.1)

  members_numbers : (ms : Members) → MembersAreWritable ms → tree.MembersHaveNumbers (members_outline ms)
  members_numbers no_members w = tt
  members_numbers (member k j ms) w = (numbers j w.0, members_numbers ms w.1)

mutual
  deep : (j : Json) → tree.depth (outline j) ≡ depth j
  deep null = refl
  deep (flag b) = refl
  deep (whole z) = refl
  deep not_whole = refl
  deep (numeral s) = refl
  deep (words s) = refl
  deep (many js) = ap suc (items_deep js)
  deep (members ms) = ap suc (members_deep ms)

  items_deep : (js : Items) → tree.items_depth (items_outline js) ≡ items_depth js
  items_deep no_items = refl
  items_deep (item j js) = omega (arith, deep j, items_deep js)

  members_deep : (ms : Members) → tree.members_depth (members_outline ms) ≡ members_depth ms
  members_deep no_members = refl
  members_deep (member k j ms) = omega (arith, deep j, members_deep ms)

abbrev last : Option (json.Json × List Token) → Option found.Data
last o = option_and_then read.of_json (option_and_then (λ p. json.if_last p.0 p.1) o)

pub reads_back : (j : Json) → IsWritable j → IsOrdered j → IsPlain j → depth j ≤ max_depth → reading (spelling j) ≡ Some j
reads_back j w o p h =
    let d = again j w o p in
    let ts = tree.json_tokens (outline j) in
    let same : tokens (spelling j) ≡ ts ++ [] = tokens-print ts (ArePrintable-json_tokens (outline j) (numbers j w)) ∙ sym (append-nil ts) in
    let parsed : json.value 127 (tokens (spelling j)) ≡ Some (outline j, []) = ap (json.value 127) same ∙ value-json_tokens (outline j) 127 [] (omega (arith, deep j)) in
    ap (option_map of_data) (ap last parsed ∙ d.1) ∙ ap Some d.2
