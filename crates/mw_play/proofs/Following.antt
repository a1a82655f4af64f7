-- What a client knows and sent once it heard more.
use Rattle.std.proofs.Common.{◌≡◌, ◌⊎◌, inl, inr, ◌≤◌, ◌++◌, length, arith, ℕ, List, [], ◌∷◌, refl, sym, ap, subst, ◌∙◌, append_assoc, append-nil}
use Rattle.std.specs.List.{AllByRecursion}
use Rattle.std.proofs.lemmas.List.Concat.{flat_map-append}
use Rattle.mw_link.specs.declared.link.Heard.{Heard}
use Rattle.mw_link.specs.declared.link.Heard.TheVariants.{Words, Binary, NotYet, End}
use Rattle.mw_model.specs.Items.{NetItem}
use Rattle.mw_client.specs.Hearing.{news_in, played, played_by, played_news}
use Rattle.mw_client.specs.News.{News, greeted, joined, turned_away, received, nothing}
use Rattle.mw_client.specs.Playing.{Play, answers, answers_all, begun, next, next_all}
use Rattle.mw_client.specs.declared.answer.Answer.{Answer}
use Rattle.mw_play.specs.declared.player.Player.{Player}
use Rattle.mw_play.specs.Saves.{HoldsList}
use Rattle.mw_play.specs.Turns.{Follows, HoldsFront, HoldsLast, IsFull, NotEnd, Overfills, known, messages_of, news_over, said, texts_in}

-- ---- one text more

texts_both : (hs js : List Heard) → texts_in (hs ++ js) ≡ texts_in hs ++ texts_in js
texts_both [] js = refl
texts_both (Words text ∷ hs) js = ap (λ (ts : List (List ℕ)). text ∷ ts) (texts_both hs js)
texts_both (Binary ∷ hs) js = texts_both hs js
texts_both (NotYet ∷ hs) js = texts_both hs js
texts_both (End ∷ hs) js = texts_both hs js

next_both : (p : Play) (ns ms : List News) → next_all p (ns ++ ms) ≡ next_all (next_all p ns) ms
next_both p [] ms = refl
next_both p (n ∷ ns) ms = next_both (next p n) ns ms

answers_both : (p : Play) (ns ms : List News) → answers_all p (ns ++ ms) ≡ answers_all p ns ++ answers_all (next_all p ns) ms
answers_both p [] ms = refl
answers_both p (n ∷ ns) ms =
    ap (λ (l : List Answer). answers p n ++ l) (answers_both (next p n) ns ms) ∙ sym (append_assoc (answers p n) (answers_all (next p n) ns) (answers_all (next_all (next p n) ns) ms))

-- what one thing that was heard tells
abbrev pub told_by : Heard → List News
told_by h = news_over (texts_in (h ∷ []))

news_on : (hs : List Heard) (h : Heard) → news_over (texts_in (hs ++ h ∷ [])) ≡ news_over (texts_in hs) ++ told_by h
news_on hs h = ap news_over (texts_both hs (h ∷ [])) ∙ flat_map-append news_in (texts_in hs) (texts_in (h ∷ []))

pub known_on : (list : List NetItem) (hs : List Heard) (h : Heard) → known list (hs ++ h ∷ []) ≡ next_all (known list hs) (told_by h)
known_on list hs h = ap (next_all (begun list)) (news_on hs h) ∙ next_both (begun list) (news_over (texts_in hs)) (told_by h)

pub said_on : (player : Player) (list : List NetItem) (hs : List Heard) (h : Heard) → said player list (hs ++ h ∷ []) ≡ said player list hs ++ messages_of player (answers_all (known list hs) (told_by h))
said_on player list hs h =
    ap (λ (ns : List News). messages_of player (answers_all (begun list) ns)) (news_on hs h)
    ∙ ap (messages_of player) (answers_both (begun list) (news_over (texts_in hs)) (told_by h))
    ∙ flat_map-append _ (answers_all (begun list) (news_over (texts_in hs))) (answers_all (known list hs) (told_by h))

-- ---- the list

list_by : (p : Play) (n : News) → (next p n).list ≡ played_by p.list n
list_by p greeted = refl
list_by p joined = refl
list_by p (turned_away errors) = refl
list_by p (received index items) = refl
list_by p nothing = refl

list_news : (p : Play) (ns : List News) → (next_all p ns).list ≡ played_news p.list ns
list_news p [] = refl
list_news p (n ∷ ns) = list_news (next p n) ns ∙ ap (λ (l : List NetItem). played_news l ns) (list_by p n)

list_over : (p : Play) (ts : List (List ℕ)) → (next_all p (news_over ts)).list ≡ played p.list ts
list_over p [] = refl
list_over p (t ∷ ts) =
    ap (λ (q : Play). q.list) (next_both p (news_in t) (news_over ts))
    ∙ list_over (next_all p (news_in t)) ts
    ∙ ap (λ (l : List NetItem). played l ts) (list_news p (news_in t))

-- the list is what the texts make of it
pub list_is : (list : List NetItem) (hs : List Heard) → (known list hs).list ≡ played list (texts_in hs)
list_is list hs = list_over (begun list) (texts_in hs)

-- ---- images

pub holds_all : (image digest : List ℕ) (list : List NetItem) (hs : List Heard) → HoldsList image digest (known list hs).list → HoldsFront digest list (texts_in hs) image
holds_all image digest list hs holds = record {
  front = texts_in hs;
  rest = [];
  fronts = sym (append-nil (texts_in hs));
  holds = subst (λ (l : List NetItem). HoldsList image digest l) (list_is list hs) holds;
}

pub holds_more : (image digest : List ℕ) (list : List NetItem) (hs rest after : List Heard) → after ≡ hs ++ rest → HoldsFront digest list (texts_in hs) image → HoldsFront digest list (texts_in after) image
holds_more image digest list hs rest after is held = record {
  front = held.front;
  rest = held.rest ++ texts_in rest;
  fronts = ap texts_in is ∙ texts_both hs rest ∙ ap (λ (ts : List (List ℕ)). ts ++ texts_in rest) held.fronts ∙ append_assoc held.front held.rest (texts_in rest);
  holds = held.holds;
}

-- what is heard next leaves the list before it, or makes another of it
pub front_same : (image digest : List ℕ) (list : List NetItem) (hs rest after : List Heard) (p : Play) → p ≡ known list hs → after ≡ hs ++ rest → HoldsList image digest p.list → HoldsFront digest list (texts_in after) image
front_same image digest list hs rest after p knows is holds =
    holds_more image digest list hs rest after is (holds_all image digest list hs (subst (λ (q : Play). HoldsList image digest q.list) knows holds))

pub after_words : (list : List NetItem) (hs after : List Heard) (p : Play) (text : List ℕ) → p ≡ known list hs → after ≡ hs ++ Words text ∷ [] → next_all p (news_in text) ≡ known list after
after_words list hs after p text knows is =
    ap (λ (q : Play). next_all q (news_in text)) knows
    ∙ ap (next_all (known list hs)) (sym (append-nil (news_in text)))
    ∙ sym (known_on list hs (Words text))
    ∙ ap (known list) (sym is)

pub front_words : (image digest : List ℕ) (list : List NetItem) (hs after : List Heard) (p : Play) (text : List ℕ) → p ≡ known list hs → after ≡ hs ++ Words text ∷ []
    → HoldsList image digest p.list ⊎ HoldsList image digest (next_all p (news_in text)).list → HoldsFront digest list (texts_in after) image
front_words image digest list hs after p text knows is (inl holds) = front_same image digest list hs (Words text ∷ []) after p knows is holds
front_words image digest list hs after p text knows is (inr holds) =
    holds_all image digest list after (subst (λ (q : Play). HoldsList image digest q.list) (after_words list hs after p text knows is) holds)

pub full_words : (images : List ℕ → Type 0) (digest : List ℕ) (list : List NetItem) (hs after : List Heard) (p : Play) (text : List ℕ) → p ≡ known list hs → after ≡ hs ++ Words text ∷ []
    → Overfills images digest p.list (next_all p (news_in text)).list → IsFull images digest list after
full_words images digest list hs after p text knows is full = record {
  front = hs;
  text = text;
  last = is;
  full = subst (λ (q : Play). Overfills images digest (known list hs).list q.list) (after_words list hs after p text knows is)
      (subst (λ (q : Play). Overfills images digest q.list (next_all p (news_in text)).list) knows full);
}

-- what is heard next is saved, or the list is as it was before it
pub last_same : (image digest : List ℕ) (list : List NetItem) (hs rest after : List Heard) (p : Play) → p ≡ known list hs → after ≡ hs ++ rest → length (texts_in rest) ≤ 1 → HoldsList image digest p.list → HoldsLast digest list (texts_in after) image
last_same image digest list hs rest after p knows is few holds = record {
  front = texts_in hs;
  rest = texts_in rest;
  fronts = ap texts_in is ∙ texts_both hs rest;
  last = few;
  holds = subst (λ (l : List NetItem). HoldsList image digest l) (list_is list hs) (subst (λ (q : Play). HoldsList image digest q.list) knows holds);
}

pub last_all : (image digest : List ℕ) (list : List NetItem) (hs : List Heard) (p : Play) → p ≡ known list hs → HoldsList image digest p.list → HoldsLast digest list (texts_in hs) image
last_all image digest list hs p knows holds = last_same image digest list hs [] hs p knows (sym (append-nil hs)) (omega arith) holds

pub last_words : (image digest : List ℕ) (list : List NetItem) (hs after : List Heard) (p : Play) (text : List ℕ) → p ≡ known list hs → after ≡ hs ++ Words text ∷ []
    → HoldsList image digest p.list ⊎ HoldsList image digest (next_all p (news_in text)).list → HoldsLast digest list (texts_in after) image
last_words image digest list hs after p text knows is (inl holds) = last_same image digest list hs (Words text ∷ []) after p knows is (omega arith) holds
last_words image digest list hs after p text knows is (inr holds) = last_all image digest list after (next_all p (news_in text)) (after_words list hs after p text knows is) holds

-- ---- a line

module _ {L : Type 0} (heard_by : L → List Heard) (sent_by : L → List (List ℕ)) where
  pub follows_words : (player : Player) (list : List NetItem) (line mid after : L) (p q : Play) (text : List ℕ) → Follows heard_by sent_by player list line p
      → heard_by mid ≡ heard_by line ++ Words text ∷ [] → sent_by mid ≡ sent_by line → heard_by after ≡ heard_by mid → sent_by after ≡ sent_by mid ++ messages_of player (answers_all p (news_in text))
      → q ≡ next_all p (news_in text) → Follows heard_by sent_by player list after q
  follows_words player list line mid after p q text f heard sent heard2 sent2 knows = record {
    knows = knows ∙ after_words list (heard_by line) (heard_by after) p text f.knows (heard2 ∙ heard);
    sent = sent2
        ∙ ap (λ (ts : List (List ℕ)). ts ++ messages_of player (answers_all p (news_in text))) (sent ∙ f.sent)
        ∙ ap (λ (q : Play). said player list (heard_by line) ++ messages_of player (answers_all q (news_in text))) f.knows
        ∙ ap (λ (ns : List News). said player list (heard_by line) ++ messages_of player (answers_all (known list (heard_by line)) ns)) (sym (append-nil (news_in text)))
        ∙ sym (said_on player list (heard_by line) (Words text))
        ∙ ap (said player list) (sym (heard2 ∙ heard));
  }

  -- what is no text tells nothing
  pub follows_other : (player : Player) (list : List NetItem) (line after : L) (p : Play) (h : Heard) → texts_in (h ∷ []) ≡ [] → Follows heard_by sent_by player list line p
      → heard_by after ≡ heard_by line ++ h ∷ [] → sent_by after ≡ sent_by line → Follows heard_by sent_by player list after p
  follows_other player list line after p h none f heard sent =
      let same : texts_in (heard_by after) ≡ texts_in (heard_by line) =
      ap texts_in heard ∙ texts_both (heard_by line) (h ∷ []) ∙ ap (λ (ts : List (List ℕ)). texts_in (heard_by line) ++ ts) none ∙ append-nil (texts_in (heard_by line)) in
      record {
        knows = f.knows ∙ ap (λ (ts : List (List ℕ)). next_all (begun list) (news_over ts)) (sym same);
        sent = sent ∙ f.sent ∙ ap (λ (ts : List (List ℕ)). messages_of player (answers_all (begun list) (news_over ts))) (sym same);
      }

all_on : (hs : List Heard) (h : Heard) → AllByRecursion NotEnd hs → NotEnd h → AllByRecursion NotEnd (hs ++ h ∷ [])
all_on [] h all not = (not, tt)
all_on (g ∷ hs) h all not = (all.0, all_on hs h all.1 not)

pub unended_on : (hs after : List Heard) (h : Heard) → after ≡ hs ++ h ∷ [] → AllByRecursion NotEnd hs → NotEnd h → AllByRecursion NotEnd after
unended_on hs after h is all not = subst (λ (l : List Heard). AllByRecursion NotEnd l) (sym is) (all_on hs h all not)
