use Rattle.std.proofs.Common.{◌≡◌, ◌∙◌, ◌==◌, true, ap, inl, inr, length, refl, subst, sym}
use Rattle.std.proofs.lemmas.Bool.{false≢true}
use Rattle.tw_lineedit.proofs.FeedingLemmas.{open_is_begun}
use Rattle.tw_lineedit.specs.Above.{PrintsAbove}
use Rattle.tw_lineedit.specs.EditorSteps.{Paints}
use Rattle.tw_lineedit.specs.Frame.{frame}
use Rattle.tw_lineedit.specs.Outcomes.{is_open}
use Rattle.tw_device.proofs.HookedLemmas.{on_ok}
use Rattle.tw_device.proofs.hooked.show.Goals as goal

pub returns-then-is_empty-clause-ok : goal.returns-then-is_empty-clause-ok
returns-then-is_empty-clause-ok g c =
    let value = g.H.LineEditorHost.value in
    let final = frame g.T.Terminal.state value c.paint_line.new.self c.prepare.new.host in
    let going = subst (λ it. is_open it.session.state.mode ≡ true) (sym c.prepare.ensures.same) c.requires in
    on_ok c.paint_line.result
    (λ paints. (
      value c.prepare.new.host,
      (c.args.host.now, c.prepare.new.host, refl, refl, c.prepare.ensures.changes, c.in_ok-prepare.ensures.ok),
      inl (subst (λ it. Paints g.H.LineEditorHost.rules (frame g.T.Terminal.state value it c.prepare.new.host) final) c.prepare.ensures.same paints),
    ))
    (c.paint_line.ensures.ok (open_is_begun _ going))

pub returns-clause-ok : goal.returns-clause-ok
returns-clause-ok g c =
    let value = g.H.LineEditorHost.value in
    let text = c.as_str-lines.result.now in
    let final = frame g.T.Terminal.state value c.print_above.new.self c.prepare.new.host in
    let going = subst (λ it. is_open it.session.state.mode ≡ true) (sym c.prepare.ensures.same) c.requires in (
      value c.prepare.new.host,
      (c.args.host.now, c.prepare.new.host, refl, refl, c.prepare.ensures.changes, c.in_ok-prepare.ensures.ok),
      inr (
        text,
        λ none. false≢true (sym (sym c.is_empty.ensures ∙ c.if-is_empty.false) ∙ ap (λ l. length l == 0) none),
        subst (λ it. g.K.Hook.rules.prints it) (sym c.as_str-lines.ensures.value) c.in_ok-text.ensures,
        subst (λ it. PrintsAbove g.H.LineEditorHost.rules text (frame g.T.Terminal.state value it c.prepare.new.host) final) c.prepare.ensures.same (c.in_ok-print_above.ensures.ok going).0,
      ),
    )
