-- The compact text of a value is read as that value, its numerals with their characters.
use Rattle.std.proofs.Common.{◌≡◌, ℕ, ℤ, pos, negsuc, suc, ◌≤◌, ◌^◌, true, cond, not, List, [], ◌++◌, Some, option_map, option_and_then, Less, Greater, nat_cmp, refl, sym, ap, ap₂, ◌∙◌, arith, append-nil}
use Rattle.std.proofs.lemmas.Bool.{and_parts, ltb-true, lt-ltb, not-true}
use Rattle.std.proofs.lemmas.Cmp.{nat_list_cmp_total}
use Rattle.std.specs.Cmp.Lexicographic.{slice_cmp}
use Rattle.std.specs.Fmt.{signed_decimal}
use Rattle.std.specs.Ordering.{ordering_reverse}
use Rattle.std.specs.Str.Parse.{signed_digits_value}
use Rattle.json.specs.Json as json
use Rattle.json.specs.Lex.{tokens}
use Rattle.json.specs.Print.{IsNumber}
use Rattle.json.specs.Tree as tree
use Rattle.json.proofs.Printed.Decimals.{IsNumber-decimal, IsNumber-signed_decimal}
use Rattle.json.proofs.Printed.Tokens.{tokens-print}
use Rattle.json.proofs.Printed.Trees.{value-json_tokens, ArePrintable-json_tokens}
use Rattle.mw_model.specs.Json.{Json, null, flag, whole, not_whole, numeral, words, many, members, Items, no_items, item, Members, no_members, member, depth, items_depth, members_depth, IsInRange, IsNumeral, ComeAfter, IsWritable, ItemsAreWritable, MembersAreWritable, IsOrdered, ItemsAreOrdered, MembersAreOrdered}
use Rattle.mw_model.specs.Spelling.{spelling, number_text, outline, items_outline, members_outline}
use Rattle.mw_model.specs.Trees.{set_member}
use Rattle.mw_numerals.specs.Numerals.{is_number, is_in_range, is_whole, is_kept}
use Rattle.mw_numerals.proofs.Numerals.{is_read, written_is_whole, tells_numerals}
use Rattle.mw_json.specs.KeptReading.{kept_number, kept_value, kept_items, kept_members, kept_reading}

-- ---- numbers

pub in_range : (z : ℤ) → IsInRange z → is_in_range z ≡ true
in_range (pos n) h = lt-ltb n (2 ^ 64) h
in_range (negsuc n) h = lt-ltb n (2 ^ 63) h

pub range_is : (z : ℤ) → is_in_range z ≡ true → IsInRange z
range_is (pos n) h = ltb-true n (2 ^ 64) h
range_is (negsuc n) h = ltb-true n (2 ^ 63) h

text_is : (z : ℤ) → number_text z ≡ signed_decimal z
text_is (pos n) = refl
text_is (negsuc n) = refl

whole_again : (z : ℤ) → IsInRange z → kept_number (number_text z) ≡ whole z
whole_again z h =
    let r = in_range z h in
    ap kept_number (text_is z) ∙ (ap (λ b. cond b (whole (signed_digits_value 10 (signed_decimal z))) (numeral (signed_decimal z))) (written_is_whole z r) ∙ ap whole (is_read z r).value)

-- the test of a numeral that is kept tells the numerals
pub is_kept_one : (s : List ℕ) → IsNumeral s → is_kept s ≡ true
is_kept_one s h = (tells_numerals s).1 (h.0, λ z r e. h.1 z (range_is z r) e)

pub numeral_is : (s : List ℕ) → is_kept s ≡ true → IsNumeral s
numeral_is s h = let k = (tells_numerals s).0 h in (k.0, λ z r e. k.1 z (in_range z r) e)

numeral_again : (s : List ℕ) → IsNumeral s → kept_number s ≡ numeral s
numeral_again s h =
    ap (λ b. cond b (whole (signed_digits_value 10 s)) (numeral s)) (not-true (is_whole s) (and_parts (is_number s) (not (is_whole s)) (is_kept_one s h)).1)

number_is : (z : ℤ) → IsInRange z → IsNumber (number_text z)
number_is (pos n) h = IsNumber-decimal n h
number_is (negsuc n) h = IsNumber-signed_decimal (negsuc n) h

-- ---- members that are read in order

abbrev Below : Members → List ℕ → Type 0
Below no_members k = Unit {0}
Below (member l e ms) k = (slice_cmp nat_cmp l k ≡ Less) × Below ms k

abbrev AllBelow : Members → Members → Type 0
AllBelow done no_members = Unit {0}
AllBelow done (member k j ms) = Below done k × AllBelow done ms

abbrev followed_by : Members → Members → Members
followed_by no_members ns = ns
followed_by (member k j ms) ns = member k j (followed_by ms ns)

abbrev one : List ℕ → Json → Members
one k j = member k j no_members

set_after : (done : Members) (k : List ℕ) (j : Json) → Below done k → set_member k j done ≡ followed_by done (one k j)
set_after no_members k j h = refl
set_after (member l e ms) k j h =
    let above : slice_cmp nat_cmp k l ≡ Greater = nat_list_cmp_total.antisymm k l ∙ ap ordering_reverse h.0 in
    rw (set_member, above) (ap (member l e) (set_after ms k j h.1))

followed_twice : (done : Members) (k : List ℕ) (j : Json) (ms : Members) → followed_by (followed_by done (one k j)) ms ≡ followed_by done (member k j ms)
followed_twice no_members k j ms = refl
followed_twice (member l e done) k j ms = ap (member l e) (followed_twice done k j ms)

followed_by_none : (done : Members) → followed_by done no_members ≡ done
followed_by_none no_members = refl
followed_by_none (member k j ms) = ap (member k j) (followed_by_none ms)

below_one_more : (done : Members) (k l : List ℕ) (j : Json) → Below done l → slice_cmp nat_cmp k l ≡ Less → Below (followed_by done (one k j)) l
below_one_more no_members k l j h e = (e, tt)
below_one_more (member m x ms) k l j h e = (h.0, below_one_more ms k l j h.1 e)

all_below_one_more : (done : Members) (k : List ℕ) (j : Json) (ms : Members) → AllBelow done ms → ComeAfter k ms → AllBelow (followed_by done (one k j)) ms
all_below_one_more done k j no_members h a = tt
all_below_one_more done k j (member l i ms) h a = (below_one_more done k l j h.0 a.0, all_below_one_more done k j ms h.1 a.1)

none_below : (ms : Members) → AllBelow no_members ms
none_below no_members = tt
none_below (member k j ms) = (tt, none_below ms)

-- ---- the whole

mutual
  again : (j : Json) → IsWritable j → IsOrdered j → kept_value (outline j) ≡ j
  again null w o = refl
  again (flag b) w o = refl
  again (whole z) w o = whole_again z w
  again not_whole w o = absurd w
  again (numeral s) w o = numeral_again s w
  again (words s) w o = refl
  again (many js) w o = ap many (items_again js w o)
  again (members ms) w o = ap members (members_again ms no_members w o (none_below ms))

  items_again : (js : Items) → ItemsAreWritable js → ItemsAreOrdered js → kept_items (items_outline js) ≡ js
  items_again no_items w o = refl
  items_again (item j js) w o = ap₂ item (again j w.0 o.0) (items_again js w.1 o.1)

  members_again : (ms : Members) (done : Members) → MembersAreWritable ms → MembersAreOrdered ms → AllBelow done ms → kept_members (members_outline ms) done ≡ followed_by done ms
  members_again no_members done w o b = sym (followed_by_none done)
  members_again (member k j ms) done w o b =
      ap (λ x. kept_members (members_outline ms) (set_member k x done)) (again j w.0 o.0)
      ∙ (ap (kept_members (members_outline ms)) (set_after done k j b.0) ∙ (members_again ms (followed_by done (one k j)) w.1 o.2 (all_below_one_more done k j ms b.1 o.1) ∙ followed_twice done k j ms))

mutual
  numbers : (j : Json) → IsWritable j → tree.HasNumbers (outline j)
  numbers null w = tt
  numbers (flag b) w = tt
  numbers (whole z) w = number_is z w
  numbers not_whole w = tt
  numbers (numeral s) w = w.0
  numbers (words s) w = tt
  numbers (many js) w = items_numbers js w
  numbers (members ms) w = members_numbers ms w

  items_numbers : (js : Items) → ItemsAreWritable js → tree.ItemsHaveNumbers (items_outline js)
  items_numbers no_items w = tt
  items_numbers (item j js) w = (numbers j w.0, items_numbers js w.1)

  members_numbers : (ms : Members) → MembersAreWritable ms → tree.MembersHaveNumbers (members_outline ms)
  members_numbers no_members w = tt
  members_numbers (member k j ms) w = (numbers j w.0, members_numbers ms w.1)

mutual
  deep : (j : Json) → tree.depth (outline j) ≡ depth j
  deep null = refl
  deep (flag b) = refl
  deep (whole z) = refl
  deep not_whole = refl
  deep (numeral s) = refl
  deep (words s) = refl
  deep (many js) = ap suc (items_deep js)
  deep (members ms) = ap suc (members_deep ms)

  items_deep : (js : Items) → tree.items_depth (items_outline js) ≡ items_depth js
  items_deep no_items = refl
  items_deep (item j js) = omega (arith, deep j, items_deep js)

  members_deep : (ms : Members) → tree.members_depth (members_outline ms) ≡ members_depth ms
  members_deep no_members = refl
  members_deep (member k j ms) = omega (arith, deep j, members_deep ms)

pub keeps_back : (j : Json) → IsWritable j → IsOrdered j → depth j ≤ 64 → kept_reading (spelling j) ≡ Some j
keeps_back j w o h =
    let ts = tree.json_tokens (outline j) in
    let same : tokens (spelling j) ≡ ts ++ [] = tokens-print ts (ArePrintable-json_tokens (outline j) (numbers j w)) ∙ sym (append-nil ts) in
    let parsed : json.value 127 (tokens (spelling j)) ≡ Some (outline j, []) = ap (json.value 127) same ∙ value-json_tokens (outline j) 127 [] (omega (arith, deep j)) in
    ap (λ o. option_map kept_value (option_and_then (λ p. json.if_last p.0 p.1) o)) parsed ∙ ap Some (again j w o)
