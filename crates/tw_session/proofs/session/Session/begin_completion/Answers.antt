use Rattle.std.proofs.Common.{rules, ◌≡◌, Bool, true, false, not, refl, sym, ◌∙◌, ap, subst, None, Some, Ok, Err, List, map, option_map}
use Rattle.std.proofs.lemmas.Bool.{false≢true}
use Rattle.std.proofs.lemmas.Option.{slice_get-map}
use Rattle.std.specs.List.{slice_get}
use Rattle.tw_line.specs.Cut.{Cut}
use Rattle.tw_host.specs.declared.host.CompletionCandidate.{CompletionCandidate}
use Rattle.tw_host.specs.CandidateView.{CandidateView, candidate_view, completed_by}
use Rattle.tw_session.specs.EditState.{EditState, ModeView, Inactive, Editing, Cancelled, Accepted, Searching}
use Rattle.tw_session.specs.Painting.{shown_in}
use Rattle.tw_session.specs.Search.{search_left, search_left_in}
use Rattle.tw_session.specs.SessionView.{SessionView, FailsToActOn, on_state}
use Rattle.tw_session.specs.Memory.{TakesMemoryToComplete}
use Rattle.tw_host.specs.HostRules.{HostRules}
use Rattle.tw_host.specs.ActionView.{Complete}
use Rattle.tw_host.specs.declared.host.Overrides.{Overrides}
use Rattle.tw_session.specs.Refusal.{CandidateDoesNotFit}
use Rattle.tw_session.specs.declared.error.Error.{Error}
use Rattle.tw_session.specs.declared.error.Error.TheVariants as error
use Rattle.tw_session.specs.Steps.{apply}
use Rattle.tw_session.specs.Completion.{completion_step, cycle_of, IsMisfit}
use Rattle.tw_session.proofs.session.Session.begin_completion.Goals as goal

cycle_kept : (s : EditState) (m : ModeView) → (search_left_in s m).cycle ≡ s.cycle
cycle_kept s Inactive = refl
cycle_kept s Editing = refl
cycle_kept s Cancelled = refl
cycle_kept s Accepted = refl
cycle_kept s (Searching style direction matching) = refl

cut_shown : (s : EditState) (m : ModeView) → (search_left_in s m).cut ≡ shown_in s.cut m
cut_shown s Inactive = refl
cut_shown s Editing = refl
cut_shown s Cancelled = refl
cut_shown s Accepted = refl
cut_shown s (Searching style direction matching) = refl

completes : (offers : Cut → List CandidateView) (t : EditState) (all : List CandidateView) (first : CandidateView) (line completed : Cut)
    → t.cycle ≡ None → t.cut ≡ line → offers line ≡ all → slice_get all 0 ≡ Some first → completed_by first line ≡ Some completed
    → completion_step offers t ≡ Ok (record t { cut = completed; cycle = cycle_of all t.cut })
unfolding completion_step
completes offers t all first line completed a b c d e = rw (a, b, c, d, e) refl

misfits : (offers : Cut → List CandidateView) (t : EditState) (all : List CandidateView) (first : CandidateView) (line : Cut)
    → t.cycle ≡ None → t.cut ≡ line → offers line ≡ all → slice_get all 0 ≡ Some first → completed_by first line ≡ None
    → completion_step offers t ≡ Err CandidateDoesNotFit
unfolding completion_step
misfits offers t all first line a b c d e = rw (a, b, c, d, e) refl

-- where the first candidate was not put in
not_put_in : {V : Type 0} (rules : HostRules V) (overrides : Overrides) (v : V) (old : SessionView) (first : CandidateView) (line : Cut) (e : Error)
    → old.state.cycle ≡ None → overrides.complete ≡ true → (completed_by first line ≡ None → apply rules v Complete old.state ≡ Err CandidateDoesNotFit)
    → IsMisfit first line e → FailsToActOn rules overrides v Complete old old e
not_put_in rules overrides v old first line (error.Memory x) none asked refused fits = (refl, subst (TakesMemoryToComplete overrides) (sym none) asked)
not_put_in rules overrides v old first line error.CandidateDoesNotFit none asked refused misfit = (refl, refused misfit)
not_put_in rules overrides v old first line _ none asked refused misfit = absurd misfit

-- a host that completes for itself is asked
asked : (b : Bool) → not b ≡ false → b ≡ true
asked true a = refl
asked false a = absurd (false≢true (sym a))

pub returns-in_err-completed-clause-err : goal.returns-in_err-completed-clause-err
unfolding apply
returns-in_err-completed-clause-err g c =
    let s : EditState = c.args.self.now.state in
    let all : List CandidateView = map candidate_view c.in_ok-candidates.candidates.items in
    let line : Cut = c.shown_line-line.result.now in
    let first : CandidateView = candidate_view c.in-Some.first.now in
    let shown : (search_left s).cut ≡ line = cut_shown s s.mode ∙ sym c.shown_line-line.ensures in
    let offers = sym (rw (c.get_line.ensures, c.get_cursor.ensures.value) at c.in_ok-candidates.ensures) in
    let items : slice_get c.in_ok-candidates.candidates.items 0 ≡ Some c.in-Some.first.now =
    ap (λ (l : List CompletionCandidate). slice_get l 0) (sym c.deref.ensures.value) ∙ sym c.in-Some.ensures.value in
    let there : slice_get all 0 ≡ Some first =
    slice_get-map candidate_view c.in_ok-candidates.candidates.items 0 ∙ ap (option_map candidate_view) items in
    let overrides : Overrides = g.H.LineEditorHost.OVERRIDES in
    let owns : overrides.complete ≡ true = search (rules, asked) in
    let fails : FailsToActOn g.H.LineEditorHost.rules overrides (g.H.LineEditorHost.value c.args.host.now) Complete c.args.self.now c.args.self.now c.in_err-completed.field-0.0 =
    not_put_in g.H.LineEditorHost.rules overrides (g.H.LineEditorHost.value c.args.host.now) c.args.self.now first line c.in_err-completed.field-0.0 c.requires owns
    (λ none. misfits _ (search_left s) all first line (cycle_kept s s.mode ∙ c.requires) shown offers there none) c.in_err-completed.ensures.err in
    search (rules, fails, c.from_residual-in_err-completed.ensures)

pub returns-clause-ok : goal.returns-clause-ok
unfolding apply
returns-clause-ok g c =
    let s : EditState = c.args.self.now.state in
    let all : List CandidateView = map candidate_view c.in_ok-candidates.candidates.items in
    let line : Cut = c.shown_line-line.result.now in
    let shown : (search_left s).cut ≡ line = cut_shown s s.mode ∙ sym c.shown_line-line.ensures in
    let taken : SessionView → SessionView = λ v. on_state (λ st. record st { cut = c.in_ok-completed.completed; cycle = cycle_of all st.cut }) v in
    let new : c.take_first.new.self ≡ taken (on_state search_left c.args.self.now) = c.take_first.ensures ∙ ap taken c.leave_search-2.ensures in
    let offers = sym (rw (c.get_line.ensures, c.get_cursor.ensures.value) at c.in_ok-candidates.ensures) in
    let items : slice_get c.in_ok-candidates.candidates.items 0 ≡ Some c.in-Some.first.now =
    ap (λ (l : List CompletionCandidate). slice_get l 0) (sym c.deref.ensures.value) ∙ sym c.in-Some.ensures.value in
    let first : slice_get all 0 ≡ Some (candidate_view c.in-Some.first.now) =
    slice_get-map candidate_view c.in_ok-candidates.candidates.items 0 ∙ ap (option_map candidate_view) items in
    record {
      state = completes _ (search_left s) all (candidate_view c.in-Some.first.now) line c.in_ok-completed.completed (cycle_kept s s.mode ∙ c.requires) shown offers first c.in_ok-completed.ensures.ok
          ∙ sym (ap (λ (v : SessionView). Ok v.state) new);
      mark = ap (λ (v : SessionView). v.mark) new;
    }
