-- Stops that are to come, and what becomes of lines, as the code has them.
use Rattle.std.specs.Prelude.{◌≡◌, ◌≤◌, Bool, Option}
use Rattle.std.specs.Option.{option_map}
use Rattle.mt_model.specs.declared.texts.recording.Event.{Event}
use Rattle.mt_model.specs.declared.texts.recording.Event.TheVariants as events
use Rattle.mt_whole.specs.mt_runs.Course.{Course, Stop, course_of_line, course_of_stop, goes, stops, survives}
use Rattle.mt_play.specs.declared.course.ComingStop.{ComingStop}
use Rattle.mt_play.specs.declared.course.Course as code
use Rattle.mt_play.specs.declared.course.Course.TheVariants as codes

abbrev pub stop_in : ComingStop → Stop
stop_in stop = record { calls = stop.calls; fate = stop.fate; line = events.Stop stop.asked stop.fate }

abbrev pub coming : Option ComingStop → Option Stop
coming stop = option_map stop_in stop

abbrev pub course_in : code.Course → Course
course_in (codes.Goes stop) = goes (coming stop)
course_in (codes.Stops by survives) = stops (events.Stop by.asked by.fate) survives

-- what becomes of a line, by whether it changes what lasts, where this stop is to come
abbrev pub course_by : Event → Bool → Option Stop → Course
course_by (events.Stop calls fate) changes stop = course_of_stop calls fate
course_by event changes stop = course_of_line changes stop

-- The disk stops at the line itself or in one of the four calls that it makes, and its change survives where such a stop leaves it.
abbrev pub IsTold : code.Course → Type 0
IsTold (codes.Goes stop) = Unit {0}
IsTold (codes.Stops by survived) = (by.calls ≤ 4) × (survived ≡ survives (stop_in by))

-- whether a line is carried out, or the disk stops in it

abbrev pub IsGoing : code.Course → Type 0
IsGoing (codes.Goes stop) = Unit {0}
IsGoing (codes.Stops by survives) = ⊥

abbrev pub IsStopping : code.Course → Type 0
IsStopping (codes.Goes stop) = ⊥
IsStopping (codes.Stops by survives) = Unit {0}
