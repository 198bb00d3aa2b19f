-- What is seen of a faithful host: what is fresh, with the prompt and the line for the texts that are shown.
use Rattle.std.proofs.Common.{◌≡◌, ℕ, ◌+◌, ◌/◌, ◌%◌, List, ◌++◌, length, ap, ◌∙◌, subst}
use Rattle.tw_surface.specs.Fresh.{IsShown}
use Rattle.tw_surface.specs.Scenes.{typed_text}
use Rattle.tw_host.specs.HostRules.{HostRules}
use Rattle.tw_session.specs.FaithfulLaws.{ShowsTheLine}
use Rattle.tw_session.specs.Painting.{scene_of, shown_in}

pub shows_the_line : {V : Type 0} (rules : HostRules V) → ShowsTheLine rules
shows_the_line rules faithful width s v state cleared after fresh =
    let cut = shown_in state.cut state.mode in
    let scene = scene_of rules v state cleared in
    let prompt : typed_text scene.prompt ≡ state.prompt = faithful.prompt v state.prompt in
    let text : typed_text scene.prompt ++ typed_text scene.line ≡ state.prompt ++ cut.line =
    ap (λ t. t ++ typed_text scene.line) prompt ∙ ap (λ t. state.prompt ++ t) (faithful.line v cut) in
    record {
      shown = subst (λ (t : List ℕ). IsShown width s t after) text fresh.shown;
      row = fresh.row ∙ ap (λ t. s + (length t + scene.column) / width) prompt ∙ ap (λ c. s + (length state.prompt + c) / width) (faithful.column v cut);
      col = fresh.col ∙ ap (λ t. (length t + scene.column) % width) prompt ∙ ap (λ c. (length state.prompt + c) % width) (faithful.column v cut);
    }
