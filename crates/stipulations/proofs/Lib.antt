mod Cuts
mod Squeezed
