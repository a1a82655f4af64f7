-- A message's text is its packets' texts, with commas between them and brackets around.
use Rattle.std.proofs.Common.{◌≡◌, ℕ, Bool, true, false, List, [], ◌∷◌, ◌++◌, ◌||◌, ◌==◌, not, length, map, fold, refl, sym, ap, ap₂, ◌∙◌, append_assoc, append-nil, nat_lt, arith, ◌+◌, ◌<◌, take, get_or}
use Rattle.std.proofs.lemmas.List.{map-append, length-map, length-take-le, take_more}
use Rattle.json.specs.Json as json
use Rattle.json.specs.Print.{print, print_from, ends}
use Rattle.json.specs.Token.{Token}
use Rattle.json.specs.Tree.{json_tokens, items_tokens, members_tokens}
use Rattle.json.proofs.Printed.Tokens.{print_from-append}
use Rattle.mw_model.specs.Json.{Json}
use Rattle.mw_model.specs.Trees.{items_of}
use Rattle.mw_model.specs.Spelling.{spelling, outline, items_outline}
use Rattle.mw_protocol.specs.Messages.{ServerPacket, packet_json, packet_text, message_text}
use Rattle.mw_packets_out.specs.Joined.{one_more, joined, in_brackets, some_after}

-- ---- tokens of a value

ends_append : (after : Bool) (ts us : List Token) → fold (λ _ t. ends t) after (ts ++ us) ≡ fold (λ _ t. ends t) (fold (λ _ t. ends t) after ts) us
ends_append after [] us = refl
ends_append after (t ∷ ts) us = ends_append (ends t) ts us

mutual
  items_end : (after : Bool) (js : json.Items) → fold (λ _ t. ends t) after (items_tokens js) ≡ true
  items_end after json.no_items = refl
  items_end after (json.item j js) = ends_append after (json_tokens j) (items_tokens js) ∙ items_end (fold (λ _ t. ends t) after (json_tokens j)) js

  members_end : (after : Bool) (ms : json.Members) → fold (λ _ t. ends t) after (members_tokens ms) ≡ true
  members_end after json.no_members = refl
  members_end after (json.member k j ms) = ends_append false (json_tokens j) (members_tokens ms) ∙ members_end (fold (λ _ t. ends t) false (json_tokens j)) ms

value_ends : (after : Bool) (j : json.Json) → fold (λ _ t. ends t) after (json_tokens j) ≡ true
value_ends after json.null = refl
value_ends after (json.boolean b) = refl
value_ends after (json.number s) = refl
value_ends after (json.string s) = refl
value_ends after (json.array js) = items_end false js
value_ends after (json.object ms) = members_end false ms

value_alone : (after : Bool) (j : json.Json) → print_from after (json_tokens j) ≡ one_more after (print (json_tokens j))
unfolding print_from
value_alone false j = refl
value_alone true json.null = refl
value_alone true (json.boolean b) = refl
value_alone true (json.number s) = refl
value_alone true (json.string s) = refl
value_alone true (json.array js) = refl
value_alone true (json.object ms) = refl

value_then : (after : Bool) (j : json.Json) (us : List Token) → print_from after (json_tokens j ++ us) ≡ one_more after (print (json_tokens j)) ++ print_from true us
value_then after j us =
    print_from-append after (json_tokens j) us
    ∙ ap₂ (λ t b. t ++ print_from b us) (value_alone after j) (value_ends after j)

-- ---- a list

no_more : (after : Bool) → print_from after (Token.end_array ∷ []) ≡ 93 ∷ []
unfolding print_from
no_more true = refl
no_more false = refl

list_text : (after : Bool) (js : List Json) → print_from after (items_tokens (items_outline (items_of js))) ≡ joined after (map spelling js) ++ 93 ∷ []
list_text after [] = no_more after
list_text after (j ∷ js) =
    value_then after (outline j) (items_tokens (items_outline (items_of js)))
    ∙ ap (λ t. one_more after (spelling j) ++ t) (list_text true js)
    ∙ sym (append_assoc (one_more after (spelling j)) (joined true (map spelling js)) (93 ∷ []))

spelt : (ps : List ServerPacket) → map spelling (map packet_json ps) ≡ map packet_text ps
unfolding packet_text
spelt [] = refl
spelt (p ∷ ps) = ap (λ t. spelling (packet_json p) ∷ t) (spelt ps)

message_joined : (ps : List ServerPacket) → message_text ps ≡ in_brackets (map packet_text ps)
unfolding message_text print_from
message_joined ps =
    ap (λ t. 91 ∷ t) (list_text false (map packet_json ps) ∙ ap (λ ts. joined false ts ++ 93 ∷ []) (spelt ps))

-- ---- texts in a row

still_some : (ts : List (List ℕ)) → some_after true ts ≡ true
still_some [] = refl
still_some (t ∷ ts) = refl

pub joined_append : (after : Bool) (ts us : List (List ℕ)) → joined after (ts ++ us) ≡ joined after ts ++ joined (some_after after ts) us
joined_append after [] us = refl
joined_append after (t ∷ ts) us =
    ap (λ r. one_more after t ++ r) (joined_append true ts us ∙ ap (λ b. joined true ts ++ joined b us) (still_some ts))
    ∙ sym (append_assoc (one_more after t) (joined true ts) (joined true us))

some_append : (after : Bool) (ts us : List (List ℕ)) → some_after after (ts ++ us) ≡ some_after (some_after after ts) us
some_append after [] us = refl
some_append after (t ∷ ts) us = sym (still_some us)

some_before : (after : Bool) (i : ℕ) (ts : List (List ℕ)) → length ts ≡ i → some_after after ts ≡ (after || nat_lt 0 i)
some_before true i ts here = still_some ts
some_before false i [] here = rw (sym here) refl
some_before false i (t ∷ ts) here = grind (arith, here)

pub joined_more : (after now : Bool) (i : ℕ) (ts : List (List ℕ)) (t : List ℕ) → length ts ≡ i → now ≡ (after || nat_lt 0 i) → joined after (ts ++ t ∷ []) ≡ joined after ts ++ one_more now t
joined_more after now i ts t here is =
    joined_append after ts (t ∷ [])
    ∙ ap (λ r. joined after ts ++ r) (append-nil (one_more (some_after after ts) t))
    ∙ ap (λ b. joined after ts ++ one_more b t) (some_before after i ts here ∙ sym is)

-- the next of a list
pub joined_next : {A : Type 0} (text : A → List ℕ) (after now : Bool) (i : ℕ) (xs : List A) (x d : A) (t start old new : List ℕ)
    → i < length xs → x ≡ get_or xs i d → t ≡ text x → now ≡ (after || nat_lt 0 i)
    → old ≡ start ++ joined after (map text (take i xs)) → new ≡ old ++ one_more now t → new ≡ start ++ joined after (map text (take (i + 1) xs))
joined_next text after now i xs x d t start old new within here is follows before made =
    let done = map text (take i xs) in
    let grown : take (i + 1) xs ≡ take i xs ++ x ∷ [] = take_more xs i d within ∙ ap (λ y. take i xs ++ y ∷ []) (sym here) in
    let mapped : map text (take (i + 1) xs) ≡ done ++ t ∷ [] = ap (map text) grown ∙ map-append text (take i xs) (x ∷ []) ∙ ap (λ u. done ++ u ∷ []) (sym is) in
    let long : length done ≡ i = length-map (take i xs) text ∙ length-take-le i xs (omega (arith, within)) in
    made ∙ ap (λ o. o ++ one_more now t) before ∙ append_assoc start (joined after done) (one_more now t)
    ∙ ap (λ r. start ++ r) (sym (joined_more after now i done t long follows) ∙ ap (joined after) (sym mapped))

-- packets, of which the last are there as texts
pub message_in_brackets : (ps qs : List ServerPacket) (ws : List (List ℕ)) → map packet_text qs ≡ ws → in_brackets (map packet_text ps ++ ws) ≡ message_text (ps ++ qs)
message_in_brackets ps qs ws texts =
    ap (λ ts. in_brackets (map packet_text ps ++ ts)) (sym texts) ∙ ap in_brackets (sym (map-append packet_text ps qs)) ∙ sym (message_joined (ps ++ qs))

-- ---- a list of packets and of what was written

all_texts : (xs ys : List ServerPacket) (ws : List (List ℕ)) → joined false (map packet_text (xs ++ ys) ++ ws)
    ≡ joined false (map packet_text xs) ++ joined (some_after false (map packet_text xs)) (map packet_text ys) ++ joined (some_after (some_after false (map packet_text xs)) (map packet_text ys)) ws
all_texts xs ys ws =
    ap (λ ts. joined false (ts ++ ws)) (map-append packet_text xs ys)
    ∙ joined_append false (map packet_text xs ++ map packet_text ys) ws
    ∙ ap₂ (λ t b. t ++ joined b ws) (joined_append false (map packet_text xs) (map packet_text ys)) (some_append false (map packet_text xs) (map packet_text ys))

map_both : {A : Type 0} (packet : A → ServerPacket) (xs : List A) → map packet_text (map packet xs) ≡ map (λ x. packet_text (packet x)) xs
map_both packet [] = refl
map_both packet (x ∷ xs) = ap (λ ts. packet_text (packet x) ∷ ts) (map_both packet xs)

same_some : {A : Type 0} (packet : A → ServerPacket) (after : Bool) (xs : List A) → some_after after (map packet_text (map packet xs)) ≡ (after || not (length xs == 0))
same_some packet true [] = refl
same_some packet true (x ∷ xs) = refl
same_some packet false [] = refl
same_some packet false (x ∷ xs) = grind arith

pub brackets_with : {A : Type 0} (packet : A → ServerPacket) (xs ys : List A) (ws : List (List ℕ)) (after more : Bool)
    → after ≡ not (length xs == 0) → more ≡ (after || not (length ys == 0))
    → (91 ∷ []) ++ joined false (map (λ x. packet_text (packet x)) xs) ++ joined after (map (λ y. packet_text (packet y)) ys) ++ joined more ws ++ 93 ∷ []
    ≡ in_brackets (map packet_text (map packet xs ++ map packet ys) ++ ws)
brackets_with packet xs ys ws after more first second =
    let first_texts = map packet_text (map packet xs) in
    let second_texts = map packet_text (map packet ys) in
    let before : some_after false first_texts ≡ after = same_some packet false xs ∙ sym first in
    let all : some_after (some_after false first_texts) second_texts ≡ more = ap (λ b. some_after b second_texts) before ∙ same_some packet after ys ∙ sym second in
    sym (ap (λ t. 91 ∷ (t ++ 93 ∷ [])) (all_texts (map packet xs) (map packet ys) ws
    ∙ (λ i. joined false (map_both packet xs i) ++ joined (before i) (map_both packet ys i) ++ joined (all i) ws)))
