mod Below
mod EachBelow
mod KnownCodes
