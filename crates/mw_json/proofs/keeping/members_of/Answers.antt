use Rattle.std.proofs.Common.{◌≡◌, ◌∷◌, ◌++◌, [], ◌∙◌, ap, ap₂, map, sym, append_assoc}
use Rattle.std.proofs.lemmas.List.{map-append}
use Rattle.mw_json.specs.Entries.{entry_view}
use Rattle.mw_json.specs.View.{member_view, view}
use Rattle.mw_json.specs.declared.tree.Member.{roll-Member}
use Rattle.mw_json.proofs.KeptLoops.{Entry}
use Rattle.mw_json.proofs.Trees.{member_view-made}
use Rattle.mw_json.proofs.keeping.members_of.Goals as goal

pub loop-name-preserved : goal.loop-name-preserved
loop-name-preserved c =
    let l = c.loop-name in
    let done = l.invariant.0 in
    let e : Entry = (c.in-Some.name, c.in-Some.value) in
    let left = c.next.new.self in
    let all : c.args.found.entries ≡ done ++ e ∷ left = l.invariant.1 ∙ ap (λ es. done ++ es) c.in-Some.ensures.steps in
    let made = roll-Member record { name = c.from_string-name.result; value = c.in-Some.value } in
    let shown : member_view made ≡ entry_view e = member_view-made c.from_string-name.result c.in-Some.value ∙ ap (λ n. (n, view c.in-Some.value)) c.from_string-name.ensures in (
      done ++ e ∷ [],
      all ∙ sym (append_assoc done (e ∷ []) left),
      ap (map member_view) c.in_ok-push.ensures.ok ∙ map-append member_view l.members (made ∷ []) ∙ ap₂ (λ ms m. ms ++ m ∷ []) l.invariant.2 shown
          ∙ sym (map-append entry_view done (e ∷ [])),
    )
