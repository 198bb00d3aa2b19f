use Rattle.tw_sparing.proofs.screen.StyledScreen.apply.Goals as goal

pub returns-in-Text-clause-played : goal.returns-in-Text-clause-played
returns-in-Text-clause-played c = rw (c.in-Text.is, ← c.as_str.ensures.value) c.write.ensures.shown

pub returns-in-ClearScreen-clause-played : goal.returns-in-ClearScreen-clause-played
returns-in-ClearScreen-clause-played c = rw c.in-ClearScreen.is c.clear.ensures.shown

pub returns-in-ClearToEndOfScreen-clause-played : goal.returns-in-ClearToEndOfScreen-clause-played
returns-in-ClearToEndOfScreen-clause-played c = rw c.in-ClearToEndOfScreen.is c.clear_to_end.ensures.shown
