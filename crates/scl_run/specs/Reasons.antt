-- The words for each reason to refuse an input.
use Rattle.std.specs.Prelude.{◌/◌, ◌%◌, ◌++◌, ℕ, List, [], ◌∷◌, codes}
use Rattle.std.specs.Char.{digit_char}
use Rattle.j2k_markers.specs.declared.head.HeadWhy.{HeadWhy}
use Rattle.j2k_markers.specs.declared.head.HeadWhy.TheVariants as why
use Rattle.scl_run.specs.declared.ending.Reason.{Reason}
use Rattle.scl_run.specs.declared.ending.Reason.TheVariants as reason

-- A marker in four lower-case hexadecimal digits.
abbrev pub marker_digits : ℕ → List ℕ
marker_digits m = digit_char (m / 4096) ∷ digit_char (m / 256 % 16) ∷ digit_char (m / 16 % 16) ∷ digit_char (m % 16) ∷ []

-- Why a main header is refused, without the marker that some reasons name.
abbrev pub header_name : HeadWhy → List ℕ
header_name why.Cut = codes "cut"
header_name why.NoSoc = codes "no soc"
header_name why.NoSiz = codes "no siz"
header_name (why.Marker m) = codes "marker "
header_name why.Length = codes "length"
header_name (why.Twice m) = codes "twice "
header_name (why.Missing m) = codes "missing "
header_name why.Tiles = codes "tiles"
header_name why.Components = codes "components"
header_name why.Step = codes "step"
header_name why.Area = codes "area"
header_name why.Rsiz = codes "rsiz"
header_name why.Cap = codes "cap"
header_name why.Order = codes "order"
header_name why.Layers = codes "layers"
header_name why.Levels = codes "levels"
header_name why.Blocks = codes "blocks"
header_name why.Style = codes "style"
header_name why.Precinct = codes "precinct"
header_name why.Quant = codes "quant"
header_name why.Sop = codes "sop"
header_name why.TileHeader = codes "tile header"
header_name why.Ids = codes "ids"
header_name why.TooLong = codes "header past 8192"

-- The marker that a reason names, if it names one.
abbrev pub named_marker : HeadWhy → List ℕ
named_marker (why.Marker m) = marker_digits m
named_marker (why.Twice m) = marker_digits m
named_marker (why.Missing m) = marker_digits m
named_marker w = []

-- The words for a reason.
abbrev pub reason_text : Reason → List ℕ
reason_text reason.CutFrame = codes "cut frame"
reason_text reason.InputTooLong = codes "input too long"
reason_text (reason.Header w) = header_name w ++ named_marker w
reason_text reason.Cut = codes "cut"
reason_text reason.TooManyBlocks = codes "too many blocks"
reason_text reason.PacketTooLong = codes "packet too long"
reason_text reason.Psot = codes "psot"
reason_text reason.NoEoc = codes "no eoc"
reason_text reason.TooManyCodestreams = codes "too many codestreams"
reason_text reason.Stuffed = codes "stuffed"
reason_text reason.Passes = codes "passes"
reason_text reason.LengthBits = codes "length bits"
reason_text reason.CleanupShort = codes "cleanup short"
reason_text reason.CleanupLong = codes "cleanup long"
reason_text reason.RefineLong = codes "refine long"
reason_text reason.ZeroPlanes = codes "zero planes"
reason_text reason.PacketHeaderTooLong = codes "packet header too long"
reason_text reason.NoEph = codes "no eph"
reason_text reason.CaptureTooLong = codes "capture too long"
reason_text reason.NoSuchDatagram = codes "no such datagram"
reason_text reason.HeaderTooLong = codes "header too long"
reason_text reason.TooManyDatagrams = codes "too many datagrams"
