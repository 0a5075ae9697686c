-- The replies to the steps of a port, among all replies.
use Rattle.card_core.specs.declared.reply.PortReply.{PortReply}
use Rattle.card_core.specs.declared.reply.PortReply.TheVariants as port
use Rattle.card_core.specs.declared.reply.Reply.{Reply}
use Rattle.card_core.specs.declared.reply.Reply.TheVariants.{Entered, Picked, NotNow, Answered}

-- The reply of a port as a reply of the card.
abbrev pub reply_of : PortReply → Reply
reply_of port.Entered = Entered
reply_of port.Picked = Picked
reply_of port.NotNow = NotNow
reply_of (port.Answered answer) = Answered answer
