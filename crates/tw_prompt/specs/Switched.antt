-- A part with keys that can be turned off.
use Rattle.std.specs.Prelude.{Bool, None, if◌then◌else◌}
use Rattle.tw_key_parts.specs.KeyRules.{KeyRules}

-- the rules of a part that has its keys only if it is on
abbrev pub switched_rules : {S K : Type 0} → KeyRules S K → KeyRules (S × Bool) K
switched_rules part = record {
  edits = λ s asked. if s.1 then part.edits s.0 asked else None;
  follows = λ s kept step. (part.follows s.0 kept step, s.1);
  leaves = λ s. (part.leaves s.0, s.1);
}
