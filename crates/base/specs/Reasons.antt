-- The numbers of the refusals in the lists of 01 and 02. Assumes nothing.
use Rattle.std.specs.Prelude.{ℕ}
use Rattle.base.specs.declared.reasons.Reason.{Reason}
use Rattle.base.specs.declared.reasons.Reason.TheVariants.{ShortLog, Version, UnknownClass, ServerCount, Home, SpareByte, RequestCount, Layout, Length, Sum, UnknownServer, SecondRange, NotLater, PartialRow, RowForm, RowOrder, NoCopy, Unserved, ShortOutput, BrokenState, Closed, Full, PastSecond, AfterWeek, PriceFile, PriceRange, OtherFile, EndedClass, UploadPrice, LogCount, GameRange, Unlisted}

-- the number of a reason
abbrev pub number : Reason → ℕ
number ShortLog = 1
number Version = 2
number UnknownClass = 3
number ServerCount = 4
number Home = 5
number SpareByte = 6
number RequestCount = 7
number Layout = 8
number Length = 9
number Sum = 10
number UnknownServer = 11
number SecondRange = 12
number NotLater = 13
number PartialRow = 14
number RowForm = 15
number RowOrder = 16
number NoCopy = 17
number Unserved = 18
number ShortOutput = 31
number BrokenState = 32
number Closed = 33
number Full = 34
number PastSecond = 35
number AfterWeek = 36
number PriceFile = 37
number PriceRange = 38
number OtherFile = 39
number EndedClass = 43
number UploadPrice = 44
number LogCount = 45
number GameRange = 46
number (Unlisted n) = n
