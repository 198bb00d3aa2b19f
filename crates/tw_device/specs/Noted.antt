-- A step as it is noted.
use Rattle.tw_surface.specs.ChangeView.{batch_view}
use Rattle.tw_input.specs.EventView.{event_view}
use Rattle.tw_device.specs.Steps as steps
use Rattle.tw_device.specs.Steps.{Step}
use Rattle.tw_device.specs.declared.step_log.Noted.{Noted}
use Rattle.tw_device.specs.declared.step_log.Noted.TheVariants.{Took, Refused, Sent, Flushed, Waited, Told, Ended, Failed}

-- the step that is noted so
abbrev pub noted_step : Noted → Step
noted_step (Took changes) = steps.Took (batch_view changes)
noted_step Refused = steps.Refused
noted_step Sent = steps.Sent
noted_step Flushed = steps.Flushed
noted_step Waited = steps.Waited
noted_step (Told event) = steps.Told (event_view event.value)
noted_step Ended = steps.Ended
noted_step (Failed fault) = steps.Failed fault
