use Rattle.word.proofs.Base.{◌≡◌, ap, ◌∙◌, ℕ, ◌+◌, ◌<◌, arith, Bool, ◌&&◌, eqb, List, get_or, length, take, drop, length-take-le, bit_and}
use Rattle.std.proofs.lemmas.List.{get_or-take, get_or-drop, length-drop}
use Rattle.word.specs.Choice.{every}
use Rattle.word.proofs.ChoiceLaws.{every-next, every-done}
use Rattle.file.specs.Places.{colour_count, colour0, file_length}
use Rattle.file.specs.File.{kept, kept_at}
use Rattle.file.proofs.FileLaws.{kept_bits-of-colour}
use Rattle.file.proofs.colours_keep.Goals as goal

-- whether a colour keeps its bits
abbrev keeps : (file : List ℕ) (colour : ℕ) → Bool
keeps file colour = kept_at file (colour0 + colour)

-- a colour among the 32 of the file
colour-of : (file : List ℕ) (colour : ℕ) → colour < colour_count → get_or (take 32 (drop 20 file)) colour 0 ≡ get_or file (colour0 + colour) 0
colour-of file colour inside = get_or-take 32 (drop 20 file) colour 0 inside ∙ get_or-drop 20 file colour 0

colours-in : (file : List ℕ) → length file ≡ file_length → length (take 32 (drop 20 file)) ≡ colour_count
colours-in file long = length-take-le 32 (drop 20 file) (omega (arith, length-drop 20 file, long))

keeps-turn : (file : List ℕ) (colour : ℕ) (so_far : Bool) → colour < colour_count → so_far ≡ every (keeps file) colour
    → (so_far && eqb (bit_and (get_or (take 32 (drop 20 file)) colour 0) 0x0FFF) (get_or (take 32 (drop 20 file)) colour 0)) ≡ every (keeps file) (colour + 1)
unfolding kept_at kept
keeps-turn file colour so_far inside same =
    rw (colour-of file colour inside)
    (every-next (keeps file) colour (eqb (bit_and (get_or file (colour0 + colour) 0) 0x0FFF) (get_or file (colour0 + colour) 0)) so_far
    (ap (λ (bits : ℕ). eqb (bit_and (get_or file (colour0 + colour) 0) bits) (get_or file (colour0 + colour) 0)) (kept_bits-of-colour (colour0 + colour) (omega arith) (omega (arith, inside)))) same)

pub loop-value-preserved : goal.loop-value-preserved
loop-value-preserved c =
    keeps-turn _ _ _ (omega (arith, c.loop-value-test.true, colours-in c.args.file.now c.requires)) c.loop-value.invariant

pub returns : goal.returns
returns c =
    let many = colours-in c.args.file.now c.requires in
    every-done (keeps c.args.file.now) c.loop-value.value-index colour_count c.loop-value.fine
    (omega (arith, c.loop-value.auto.value-index-end, many)) (omega (arith, c.loop-value-test.false, many)) c.loop-value.invariant
