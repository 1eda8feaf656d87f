mod NoWorkers
mod ServedFiles
mod Uncounted
