-- What the calls of a session answer and leave.
use Rattle.std.specs.Prelude.{◌≡◌, List}
use Rattle.command.specs.Meanings.{Meaning}
use Rattle.model.specs.Soundness.{Sound}
use Rattle.model.specs.State.{District}
use Rattle.reservoir.specs.Meaning.{Make}
use Rattle.session.specs.Entries.{Answer}
use Rattle.session.specs.Equipments.{Equipping}
use Rattle.session.specs.Rules.{Done, line_does}
use Rattle.session.specs.Stages.{Session}

-- Where the district is sound, what is answered and left is just what is done by the rules, and the district that is left is sound.
abbrev pub Gives : List Make → District → Done → Answer → Session → Type 0
Gives makes before done answer after = Sound makes before → (done ≡ record { answer = answer; after = after }) × Sound makes after.district

-- A line answers and leaves what the rules of sheets give.
abbrev pub FollowsRules : List Make → Equipping → Session → Meaning → Answer → Session → Type 0
FollowsRules makes equipped before meaning answer after = Gives makes before.district (line_does makes equipped before meaning) answer after
