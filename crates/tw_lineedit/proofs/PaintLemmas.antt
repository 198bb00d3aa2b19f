-- What the editor's painting does to a frame.
use Rattle.std.proofs.Common.{◌≡◌, sym, ◌∙◌, ap, subst, inr, Some, Ok, false}
use Rattle.tw_surface.specs.ChangeView.{Batch}
use Rattle.tw_terminal.specs.TerminalState.{Renders, RenderFails}
use Rattle.tw_terminal.specs.declared.terminal.ScreenSize.{ScreenSize}
use Rattle.tw_session.specs.Painting.{Rendering, rendering_of, painted_on, scene_of}
use Rattle.tw_lineedit.specs.Frame.{Frame}
use Rattle.tw_lineedit.specs.EditorSteps.{Paints, FailsToPaint, ShowsBatch, FailsToShow}
use Rattle.tw_session.specs.declared.error.Error.{Error}
use Rattle.tw_session.specs.declared.error.Error.TheVariants.{Terminal}
use Rattle.tw_host.specs.HostRules.{HostRules}

module _ {V : Type 0} (rules : HostRules V) where
  -- the painting at the terminal's size
  at_own_size : (g : Frame V) {p : Rendering} {size : ScreenSize} → size ≡ g.terminal.size → rendering_of g.mark (painted_on size (scene_of rules g.value g.state false)) ≡ Ok p → rendering_of g.mark (painted_on g.terminal.size (scene_of rules g.value g.state false)) ≡ Ok p
  at_own_size g {p = p} h e = subst (λ (z : ScreenSize). rendering_of g.mark (painted_on z (scene_of rules g.value g.state false)) ≡ Ok p) h e

  -- frames are one where their parts are
  pub same_frame : (f g : Frame V) → f.state ≡ g.state → f.value ≡ g.value → f.mark ≡ g.mark → f.terminal ≡ g.terminal → f ≡ g
  same_frame f g state value mark terminal = λ i. record { state = state i; value = value i; mark = mark i; terminal = terminal i }

  -- the painting is rendered and its mark is kept
  pub paints : (f g h k : Frame V) {p : Rendering} {size : ScreenSize} {b : Batch} → size ≡ f.terminal.size → g ≡ f → rendering_of g.mark (painted_on size (scene_of rules g.value g.state false)) ≡ Ok p → b ≡ p.changes → ShowsBatch b g h → k.state ≡ h.state → k.value ≡ h.value → k.mark ≡ Some p.mark → k.terminal ≡ h.terminal → Paints rules f k
  paints f g h k {p = p} {b = b} hs gf e eb shows ks kh kl kt =
      subst (λ (x : Frame V). Paints rules x k) gf (record {
        picture = (
          p,
          at_own_size g (hs ∙ ap (λ (x : Frame V). x.terminal.size) (sym gf)) e,
          kl,
          kt ∙ subst (λ (x : Batch). Renders x g.terminal h.terminal) eb shows.terminal,
        );
        state = ks ∙ shows.keeps.state;
        value = kh ∙ shows.keeps.value;
      })

  -- the painting is rendered in part
  pub fails_to_show : (f g h : Frame V) {p : Rendering} {size : ScreenSize} {b : Batch} (e : Error) → size ≡ f.terminal.size → g ≡ f → rendering_of g.mark (painted_on size (scene_of rules g.value g.state false)) ≡ Ok p → b ≡ p.changes → FailsToShow b g h e → FailsToPaint rules f h e
  fails_to_show f g h {p = p} {b = b} (Terminal x) hs gf e eb (keeps, fails) =
      subst (λ (y : Frame V). FailsToPaint rules y h (Terminal x)) gf (
        keeps,
        inr (
          p,
          at_own_size g (hs ∙ ap (λ (y : Frame V). y.terminal.size) (sym gf)) e,
          subst (λ (y : Batch). RenderFails y g.terminal h.terminal) eb fails,
        ),
      )
  fails_to_show f g h _ hs gf e eb bad = absurd bad
