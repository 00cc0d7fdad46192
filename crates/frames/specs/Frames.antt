-- What a frame holds.
use Rattle.std.specs.Prelude.{List, take, Float}
use Rattle.frames.specs.declared.frame.Frame.{Frame}

-- The samples of a frame: those of its cells that are in use.
abbrev pub framed : Frame → List Float
framed f = take f.len f.samples
