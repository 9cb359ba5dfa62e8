-- What the lines and words of a script stand for.
use Rattle.std.specs.Prelude.{◌≡◌, ℕ, ◌+◌, ◌-◌, ◌*◌, ◌<◌, Bool, cond, ◌&&◌, List, [], ◌∷◌, ◌++◌, length, replicate, Some, None, Ok, Err, Option, Result, ◌==◌, nat_le, nat_lt}
use Rattle.std.specs.Borrow.{Bor}
use Rattle.console.specs.declared.model.Name.{Name}
use Rattle.console.specs.declared.next.Next.{Next}
use Rattle.console.specs.declared.next.Next.TheVariants.{Line, End, Choose, Store, Start, Stop}
use Rattle.console.specs.declared.text.Pieces.{Pieces}
use Rattle.console.specs.declared.text.Run.{Run}

-- what stands before the first c
abbrev pub before : ℕ → List ℕ → List ℕ
before c [] = []
before c (x ∷ xs) = cond (x == c) [] (x ∷ before c xs)

-- what stands after the first c, if there is one
abbrev pub after : ℕ → List ℕ → Option (List ℕ)
after c [] = None
after c (x ∷ xs) = cond (x == c) (Some xs) (after c xs)

-- pieces whose first has one more byte in front
abbrev pub longer : ℕ → List (List ℕ) → List (List ℕ)
longer x [] = []
longer x (p ∷ ps) = (x ∷ p) ∷ ps

-- the pieces of a text between the bytes c
abbrev pub pieces : ℕ → List ℕ → List (List ℕ)
pieces c [] = [] ∷ []
pieces c (x ∷ xs) = cond (x == c) ([] ∷ pieces c xs) (longer x (pieces c xs))

-- the pieces that are still to come
abbrev pub to_come : Pieces → List (List ℕ)
to_come p = elim p.rest [ None ↦ [] | Some rest ↦ pieces p.separator rest.now ]

-- what a call of `next` gives: the first piece that is to come, if there is one
abbrev pub NextPiece : Pieces → Option (Bor (List ℕ)) → Pieces → Type 0
NextPiece p None q = to_come p ≡ []
NextPiece p (Some piece) q = to_come p ≡ piece.now ∷ to_come q

-- a decimal digit, as a byte
abbrev pub digit : ℕ → Bool
digit x = nat_le 48 x && nat_le x 57

-- digits read on from the value of those before them: None at another byte, or once the value is above a billion
abbrev pub read_on : ℕ → List ℕ → Option ℕ
read_on value [] = Some value
read_on value (x ∷ xs) =
    cond (digit x) (cond (nat_le (value * 10 + (x - 48)) 1000000000) (read_on (value * 10 + (x - 48)) xs) None) None

-- the number that a word stands for: one or more digits
abbrev pub number_of : List ℕ → Option ℕ
number_of [] = None
number_of (x ∷ xs) = read_on 0 (x ∷ xs)

abbrev pub below256 : Option ℕ → Option ℕ
below256 None = None
below256 (Some value) = cond (nat_lt value 256) (Some value) None

-- the byte that a word stands for
abbrev pub byte_of : List ℕ → Option ℕ
byte_of word = below256 (number_of word)

-- a run of so many bytes
abbrev pub run_by : Option ℕ → Option ℕ → Option Run
run_by None b = None
run_by (Some n) None = None
run_by (Some n) (Some b) = Some (record { count = n; byte = b })

-- the run that a word of a list stands for: `B`, or `N*B`
abbrev pub run_of : List ℕ → Option Run
run_of word =
    elim (after 42 word) [ None ↦ run_by (Some 1) (byte_of (before 42 word)) | Some repeated ↦ run_by (number_of (before 42 word)) (byte_of repeated) ]

-- bytes and a run behind them, handed on: None without a run, or past two million bytes
abbrev pub with_run : List ℕ → Option Run → (List ℕ → Option (List ℕ)) → Option (List ℕ)
with_run bytes None on = None
with_run bytes (Some run) on = cond (nat_le (length bytes + run.count) 2000000) (on (bytes ++ replicate run.count run.byte)) None

-- the list that words stand for, behind the bytes before it
abbrev pub list_on : List ℕ → List (List ℕ) → Option (List ℕ)
list_on bytes [] = Some bytes
list_on bytes (w ∷ ws) = with_run bytes (run_of w) (λ more. list_on more ws)

-- at most how many pieces are to come
abbrev pub pieces_left : Option (Bor (List ℕ)) → ℕ
pieces_left None = 0
pieces_left (Some rest) = length rest.now + 1

-- a model is chosen only by a line that is then used up
abbrev pub UsesLines : {X Y : Type 0} → Result (Option X) Y → ℕ → ℕ → Type 0
UsesLines (Ok None) earlier later = Unit {0}
UsesLines (Ok (Some name)) earlier later = later < earlier
UsesLines (Err error) earlier later = Unit {0}

-- the model that is to come next, if one is
abbrev pub chosen : {Y : Type 0} → Result Next Y → Result (Option Name) Y
chosen (Ok Line) = Ok None
chosen (Ok End) = Ok None
chosen (Ok (Choose name)) = Ok (Some name)
chosen (Ok (Store cues levels)) = Ok None
chosen (Ok Start) = Ok None
chosen (Ok Stop) = Ok None
chosen (Err error) = Err error

-- what comes next, unless the script is over, is asked for by a line that is then used up
abbrev pub AsksByLines : {Y : Type 0} → Result Next Y → ℕ → ℕ → Type 0
AsksByLines (Ok Line) earlier later = later < earlier
AsksByLines (Ok End) earlier later = Unit {0}
AsksByLines (Ok (Choose name)) earlier later = later < earlier
AsksByLines (Ok (Store cues levels)) earlier later = later < earlier
AsksByLines (Ok Start) earlier later = later < earlier
AsksByLines (Ok Stop) earlier later = later < earlier
AsksByLines (Err error) earlier later = Unit {0}
