-- What a step does on the bus.
use Rattle.std.specs.Prelude.{None}
use Rattle.std.specs.Option.{option_or}
use Rattle.flat.specs.declared.bus.Bus.{Bus}

-- Nothing.
abbrev pub quiet : Bus
quiet = record { sent = None }

-- One thing, and then another. A step sends one line at most.
abbrev pub followed_by : Bus → Bus → Bus
followed_by a b = record { sent = option_or a.sent b.sent }
