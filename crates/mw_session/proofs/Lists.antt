-- Lists of calls and of what was heard, one behind the other.
use Rattle.std.proofs.Common.{◌≡◌, ℕ, List, [], ◌∷◌, ◌++◌, refl, ap, sym, subst, ◌∙◌, append_assoc, append-nil}
use Rattle.std.proofs.lemmas.List.{map-append}
use Rattle.std.specs.List.{AllByRecursion}
use mathlib.Core.List.{IsPrefix}
use Rattle.mw_link.specs.declared.link.Heard.{Heard}
use Rattle.mw_protocol.specs.Lives as plain
use Rattle.mw_keep.specs.Views.{call_view}
use Rattle.mw_keep.specs.declared.call.Call.{Call}
use Rattle.mw_keep.specs.declared.reply.Reply.{Reply}
use Rattle.mw_session.specs.declared.ended.Ended.{Ended}
use Rattle.mw_session.specs.Answered.{calls_of, taken, taken_by, NoneEnds, LastEnds}
use Rattle.mw_session.specs.Asked.{asked_by, turns, AllGoOn}
use Rattle.mw_session.specs.Sessions.{EndsIn}

pub prefix_trans : {A : Type 0} (xs ys zs : List A) → IsPrefix xs ys → IsPrefix ys zs → IsPrefix xs zs
prefix_trans xs ys zs p q = (p.0 ++ q.0, sym (append_assoc xs p.0 q.0) ∙ (ap (λ w. w ++ q.0) p.1 ∙ q.1))

pub prefix_behind : {A : Type 0} (xs ys zs : List A) → IsPrefix ys zs → IsPrefix (xs ++ ys) (xs ++ zs)
prefix_behind xs ys zs p = (p.0, append_assoc xs ys p.0 ∙ ap (λ w. xs ++ w) p.1)

pub prefix_is : {A : Type 0} (xs ys : List A) → xs ≡ ys → IsPrefix xs ys
prefix_is xs ys e = ([], append-nil xs ∙ e)

pub calls_more : (xs ys : List (Call × Reply)) → calls_of (xs ++ ys) ≡ calls_of xs ++ calls_of ys
calls_more xs ys = map-append (λ x. call_view x.0) xs ys

pub taken_more : (xs ys : List (Call × Reply)) → taken_by (xs ++ ys) ≡ taken_by xs ++ taken_by ys
taken_more [] ys = refl
taken_more (x ∷ xs) ys = ap (λ w. taken x.0 x.1 ++ w) (taken_more xs ys) ∙ sym (append_assoc (taken x.0 x.1) (taken_by xs) (taken_by ys))

pub turns_more : (s : ℕ) (hs ks : List Heard) → turns s (hs ++ ks) ≡ turns s hs ++ turns s ks
turns_more s [] ks = refl
turns_more s (h ∷ hs) ks = ap (λ w. (plain.takes s ∷ asked_by s h) ++ w) (turns_more s hs ks) ∙ sym (append_assoc (plain.takes s ∷ asked_by s h) (turns s hs) (turns s ks))

pub none_more : (xs ys : List (Call × Reply)) → NoneEnds xs → NoneEnds ys → NoneEnds (xs ++ ys)
none_more [] ys h k = k
none_more (x ∷ xs) ys h k = (h.0, none_more xs ys h.1 k)

pub last_more : (e : Ended) (xs ys : List (Call × Reply)) → NoneEnds xs → LastEnds e ys → LastEnds e (xs ++ ys)
last_more e [] ys h k = k
last_more e (x ∷ []) [] h k = absurd k
last_more e (x ∷ []) (y ∷ ys) h k = (h.0, k)
last_more e (x ∷ z ∷ zs) ys h k = (h.0, last_more e (z ∷ zs) ys h.1 k)

pub on_more : (hs ks : List Heard) → AllGoOn hs → AllGoOn ks → AllGoOn (hs ++ ks)
on_more [] ks h k = k
on_more (x ∷ xs) ks h k = (h.0, on_more xs ks h.1 k)

pub in_more : (hs ks : List Heard) (h : Heard) → AllGoOn hs → EndsIn ks h → EndsIn (hs ++ ks) h
in_more hs ks h on ends = (hs ++ ends.0, ap (λ w. hs ++ w) ends.1 ∙ sym (append_assoc hs ends.0 (h ∷ [])), on_more hs ends.0 on ends.2)

-- ---- what holds of each element

pub all_push : {X : Type 0} (P : X → Type 0) (xs : List X) (x : X) → AllByRecursion P xs → P x → AllByRecursion P (xs ++ x ∷ [])
all_push P [] x h p = (p, tt)
all_push P (y ∷ xs) x h p = (h.0, all_push P xs x h.1 p)

pub all_append : {X : Type 0} (P : X → Type 0) (xs ys : List X) → AllByRecursion P xs → AllByRecursion P ys → AllByRecursion P (xs ++ ys)
all_append P [] ys h k = k
all_append P (x ∷ xs) ys h k = (h.0, all_append P xs ys h.1 k)

all_front : {X : Type 0} (P : X → Type 0) (xs ys : List X) → AllByRecursion P (xs ++ ys) → AllByRecursion P xs
all_front P [] ys h = tt
all_front P (x ∷ xs) ys h = (h.0, all_front P xs ys h.1)

pub all_prefix : {X : Type 0} (P : X → Type 0) (xs ys : List X) → IsPrefix xs ys → AllByRecursion P ys → AllByRecursion P xs
all_prefix P xs ys h all = all_front P xs h.0 (subst (AllByRecursion P) (sym h.1) all)
