-- Paper 02, W8: "The caller lends a number of instructions." A frame, or the rest of one, that uses up what was lent
-- and is gone on with by another call, from where it stands, with more lent, is the one to which all was lent: in parts
-- it ends as it does in one call.
use Rattle.std.specs.Prelude.{ℕ, ◌+◌, ◌≡◌, List, eqb, if◌then◌else◌}
use Rattle.word.specs.Word.{SixteenBits}
use Rattle.copper.specs.Frame.{used_up, Frame, stopped, frame_from}

-- a frame's end, counted on from so many instructions done before
abbrev pub counted_on : (before : ℕ) → Frame → Frame
counted_on before end = stopped end.why end.number (before + end.done) end.moment

-- a frame whose lent number is used up goes on with more, on the memory and register file that it left, from the place
-- of the beam and the word that it told; any other has ended
infix 4 ◌going_on◌
unfoldable pub ◌going_on◌ : Frame → (more : ℕ) → Frame
end going_on more =
    if eqb end.why used_up then
    counted_on end.done
    (frame_from end.moment.memory end.moment.file end.moment.beam end.moment.word more) else
    end

abbrev pub CutAndGoOn : Type 0
CutAndGoOn =
    (memory file : List ℕ) (beam start lent more : ℕ)
    → SixteenBits memory
    → frame_from memory file beam start (lent + more) ≡ (frame_from memory file beam start lent going_on more)
