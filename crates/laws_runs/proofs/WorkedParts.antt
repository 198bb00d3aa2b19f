-- What the worked runs share: plain rules, a line, its run from any frame, and a terminal over a writer that keeps its
-- bytes.
use Rattle.std.proofs.Common.{ℕ, List, [], ◌∷◌, ◌++◌, ◌≡◌, ◌∙◌, ap, subst, false, refl, sym, Some, codes, get_or, append-nil, arith}
use Rattle.std.specs.Fmt.{digits}
use Rattle.unicode_segmentation.proofs.Computing.{unicode_segmentation}
use Rattle.unicode_width.proofs.Computing.{unicode_width}
use Rattle.laws_screens.specs.Glyphs.{glyphs}
use Rattle.tw_surface.specs.ChangeView.{Batch}
use Rattle.tw_surface.specs.PaintingBatches.{SizedScene, closing_if}
use Rattle.tw_surface.specs.Places.{pieces}
use Rattle.tw_surface.specs.Width.{column_width}
use Rattle.tw_input.specs.EventView.{EventView}
use Rattle.tw_line.specs.Boundaries.{boundary_below, is_boundary}
use Rattle.tw_line.specs.Extremes.{iterate, greatest_below, least_from}
use Rattle.tw_line.specs.Movements.{destination}
use Rattle.tw_terminal.specs.Uses.{Took, Other}
use Rattle.tw_terminal.specs.declared.terminal.ScreenSize.{ScreenSize}
use Rattle.tw_host.specs.HostRules.{HostRules, plain_rules}
use Rattle.tw_session.specs.Painting.{painted_on}
use Rattle.tw_session.specs.Search.{searched_again, search_step}
use Rattle.tw_session.specs.SessionView.{new_state}
use Rattle.tw_session.specs.Steps.{apply}
use Rattle.tw_lineedit.specs.Frame.{Frame}
use Rattle.tw_lineedit.specs.Run.{Ending}
use Rattle.tw_lineedit.specs.ScreenRuns.{sized_scene}
use Rattle.tw_lineedit.specs.Stations.{Station, stations_of}
use Rattle.tw_ansi.specs.Encoding.{first_known, sent_batch}
use Rattle.tw_ansi.specs.EcmaTexts.{is_sent}
use Rattle.tw_device.specs.Deeds.{Called, Sized, Does}
use Rattle.tw_device.specs.Steps.{Step, Told, IsDueBy, IsInTime, batches_in, events_in}
use Rattle.tw_device.proofs.InTimeLemmas.{in_time_first, in_time_silent, in_time_then}
use Rattle.tw_device.specs.Live.{fresh_frame, run_over}
use Rattle.tw_device.specs.Terminal.{terminal_state}
use Rattle.tw_device.specs.declared.terminal.AnsiTerminal.{AnsiTerminal}
use Rattle.laws_runs.specs.SentReadings.{reading_frame}

-- `unfolding worked_runs` lets `refl` compute stations, batches, bytes and what is shown of them
unfoldable pub worked_runs : Unit {0}
unfolding glyphs pieces column_width painted_on apply destination searched_again search_step boundary_below is_boundary iterate greatest_below least_from is_sent digits unicode_segmentation unicode_width
worked_runs = tt

-- ---- a line of a letter, one with an accent, a character of Han, and an emoji: after the prompt, at five columns, the
-- third does not fit in the first row

abbrev pub prompt : List ℕ
prompt = codes "> "

abbrev pub accented : List ℕ
accented = 101 ∷ 204 ∷ 129 ∷ []

abbrev pub han : List ℕ
han = 230 ∷ 188 ∷ 162 ∷ []

abbrev pub crab : List ℕ
crab = 240 ∷ 159 ∷ 166 ∷ 128 ∷ []

abbrev pub text : List ℕ
text = 97 ∷ accented ++ (han ++ crab)

-- ---- bytes

-- ESC [, these letters, and more
abbrev pub csi : List ℕ → List ℕ → List ℕ
csi letters more = 27 ∷ 91 ∷ letters ++ more

-- from column 0 on all is cleared
abbrev pub cleared_rows : List ℕ → List ℕ
cleared_rows more = csi (codes "K") (csi (codes "C") (csi (codes "J") (13 ∷ more)))

-- then the prompt, after no attribute and before none, and this text
abbrev pub prompted : List ℕ → List ℕ → List ℕ
prompted text more = cleared_rows (csi (codes "0m") (prompt ++ csi (codes "0m") (text ++ more)))

-- to column 0, and so many to the right
abbrev pub to_right : List ℕ → List ℕ → List ℕ
to_right steps more = 13 ∷ csi steps more

-- to column 0 of the row below, and from there on all is cleared
abbrev pub closing_bytes : List ℕ
closing_bytes = 10 ∷ 13 ∷ cleared_rows []

-- ---- a terminal over a writer that keeps its bytes

abbrev pub Wrote : Type 0
Wrote = List ℕ

-- once a batch is taken
abbrev pub with_batch : Batch → AnsiTerminal Wrote → AnsiTerminal Wrote
with_batch batch t = record t {
  writer = t.writer ++ (sent_batch batch t.sent.encoder).bytes;
  sent = record t.sent {
    encoder = (sent_batch batch t.sent.encoder).next;
    batches = t.sent.batches ++ batch ∷ [];
  };
}

-- once its size is set
abbrev pub with_size : ScreenSize → AnsiTerminal Wrote → AnsiTerminal Wrote
with_size size t = record t { sent = record t.sent { encoder = record t.sent.encoder { cols = size.cols } }; size = size }

-- once it is flushed
abbrev pub flushed_now : AnsiTerminal Wrote → AnsiTerminal Wrote
flushed_now t = record t { sent = record t.sent { flushed = record t.sent.flushed { value = t.sent.batches } } }

pub takes : (batch : Batch) (t : AnsiTerminal Wrote) → Does Some t (with_batch batch t) (Called (Took batch))
takes batch t = record { bytes = refl; known = refl; batches = refl; failures = omega arith }

pub is_sized : (size : ScreenSize) (t : AnsiTerminal Wrote) → Does Some t (with_size size t) (Sized size)
is_sized size t = record { bytes = sym (append-nil t.writer); known = refl; batches = sym (append-nil t.sent.batches); failures = omega arith }

pub flushes : (t : AnsiTerminal Wrote) → Does Some t (flushed_now t) (Called Other)
flushes t = record { bytes = sym (append-nil t.writer); known = refl; batches = sym (append-nil t.sent.batches); failures = omega arith }

-- steps without an event before others in time, and an event in time
pub past : (due : List EventView → List Batch) (taken : List Batch) (xs zs : List Step) → events_in xs ≡ [] → IsInTime (IsDueBy due) (taken ++ batches_in xs) zs → IsInTime (IsDueBy due) taken (xs ++ zs)
past due taken xs zs none later = in_time_then (IsDueBy due) (IsDueBy due) taken xs zs (in_time_silent (IsDueBy due) taken xs none) later (λ seen batches is. is ∙ ap (λ l. due (l ++ seen)) (sym none))

pub told : (due : List EventView → List Batch) (taken : List Batch) (event : EventView) (zs : List Step) → taken ≡ due [] → IsInTime (IsDueBy (λ seen. due (event ∷ seen))) taken zs
    → IsInTime (IsDueBy due) taken (Told event ∷ zs)
told due taken event zs now later =
    in_time_then (IsDueBy due) (IsDueBy (λ seen. due (event ∷ seen))) taken (Told event ∷ []) zs (in_time_first (IsDueBy due) taken event now)
    (subst (λ all. IsInTime (IsDueBy (λ seen. due (event ∷ seen))) all zs) (sym (append-nil taken)) later) (λ seen batches is. is)

-- ---- a run of plain rules over any such terminal, a byte written before, of four rows of five columns

abbrev pub Lines : Type 0
Lines = List (List ℕ)

abbrev pub rules : HostRules Lines
rules = plain_rules (λ lines. lines)

abbrev pub nth_station : HostRules Lines → Frame Lines → ℕ → Station Lines
nth_station rules f n = get_or (stations_of rules f) n (record { state = new_state; value = []; size = record { rows = 0; cols = 0 }; cleared = false })

module _ (it : AnsiTerminal Wrote) where
  abbrev pub old : AnsiTerminal Wrote
  old = record it { writer = 63 ∷ []; sent = record it.sent { encoder = first_known 5; batches = []; failures = 0 }; size = record { rows = 4; cols = 5 } }

  module _ (events : List EventView) where
    abbrev pub frame : Frame Lines
    frame = reading_frame prompt [] old events

    abbrev pub whole : Ending Lines
    whole = run_over rules events (fresh_frame prompt [] (terminal_state old))

    abbrev pub batch_at : ℕ → Batch
    batch_at n = get_or (whole.taken ++ closing_if whole.mark) n []

    abbrev pub station_at : ℕ → Station Lines
    station_at n = nth_station rules frame n

    abbrev pub scene_at : ℕ → SizedScene
    scene_at n = sized_scene rules (station_at n)
