-- The faults of the parts as those of the whole.
use Rattle.j2k_markers.specs.declared.plan.PlanFault.{PlanFault}
use Rattle.j2k_markers.specs.declared.plan.PlanFault.TheVariants as plan
use Rattle.packet_header.specs.declared.fault.PutFault.{PutFault}
use Rattle.packet_header.specs.declared.fault.PutFault.TheVariants as put
use Rattle.codestream_make.specs.declared.fault.MakeFault.{MakeFault}
use Rattle.codestream_make.specs.declared.fault.MakeFault.TheVariants.{Head, Content, TooLong, NoMemory}

-- The fault of a main header that isn't written.
abbrev pub of_plan : PlanFault → MakeFault
of_plan (plan.Head why) = Head why
of_plan plan.NoMemory = NoMemory

-- The fault of a packet header that isn't written; one that is too long for its buffer is too long for a packet.
abbrev pub of_put : PutFault → MakeFault
of_put put.Full = Content
of_put put.Blocks = Content
of_put put.NoMemory = NoMemory

-- The fault is one of contents: one doesn't fit, or memory ran out.
abbrev pub IsOfContents : MakeFault → Type 0
IsOfContents (Head why) = ⊥
IsOfContents Content = Unit {0}
IsOfContents TooLong = ⊥
IsOfContents NoMemory = Unit {0}
